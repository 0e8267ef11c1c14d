use Rattle.std.proofs.Common.{◌≡◌, is_some, drop, map}
use Rattle.serde_json.specs.View.{view}
use Rattle.catalogue.specs.Reading.{integers}
use Rattle.catalogue.proofs.document.are_integers.Given as goal

-- all are whole numbers where the rest are
abbrev pub invariant-loop-document : goal.invariant-loop-document
invariant-loop-document l = is_some (integers (map view (drop l.document-index l.documents))) ≡ is_some (integers (map view l.documents))
