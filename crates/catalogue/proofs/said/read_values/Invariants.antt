use Rattle.std.proofs.Common.{◌≡◌, drop, map}
use Rattle.serde_json.specs.View.{view}
use Rattle.catalogue.specs.Said.{values_after, values_said}
use Rattle.catalogue.proofs.said.read_values.Given as goal

-- what the rest says, after the values so far, is what all documents say
abbrev pub invariant-loop-document : goal.invariant-loop-document
invariant-loop-document l = values_after l.values.items (map view (drop l.document-index l.documents)) ≡ values_said (map view l.documents)
