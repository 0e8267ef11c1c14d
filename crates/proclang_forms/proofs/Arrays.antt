-- Arrays of the code and of documents.
use Rattle.std.proofs.Common.{◌≡◌, map, Vec, Global, ap}
use Rattle.serde_json.specs.View.{view}
use Rattle.serde_json.specs.declared.value.Value.{Value, Array}
use Rattle.serde_json.proofs.Views.{view-Array}
use Rattle.documents.proofs.Json.{list_of-items_of}
use Rattle.proclang_forms.specs.ExprForms.{calls_form, expr_form}

pub form_of_array : (v : Vec Value Global) → expr_form (view (Array v)) ≡ calls_form (map view v.items)
form_of_array v = rw view-Array (ap calls_form (list_of-items_of (map view v.items)))
