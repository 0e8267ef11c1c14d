-- The elements of an array, as a list.
use Rattle.std.proofs.Common.{◌≡◌, List, [], ◌∷◌, map, Vec, Global, Some, ap, refl}
use Rattle.serde_json.specs.Data.{Data, Items, no_items, item}
use Rattle.serde_json.specs.View.{view, items_of}
use Rattle.serde_json.specs.declared.value.Value.{Value, Array}
use Rattle.serde_json.proofs.Views.{view-Array}
use Rattle.documents.specs.Json.{list_of, elements}

pub list_of-items_of : (ds : List Data) → list_of (items_of ds) ≡ ds
list_of-items_of [] = refl
list_of-items_of (d ∷ ds) = ap (λ (rest : List Data). d ∷ rest) (list_of-items_of ds)

pub items_of-list_of : (ds : Items) → items_of (list_of ds) ≡ ds
items_of-list_of no_items = refl
items_of-list_of (item d ds) = ap (λ (rest : Items). item d rest) (items_of-list_of ds)

pub array_elements : (v : Vec Value Global) → elements (view (Array v)) ≡ Some (map view v.items)
array_elements v = rw view-Array (ap (λ (ds : List Data). Some ds) (list_of-items_of (map view v.items)))
