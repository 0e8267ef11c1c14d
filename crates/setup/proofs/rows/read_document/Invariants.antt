use Rattle.std.proofs.Common.{◌≡◌, [], drop, map}
use Rattle.serde_json.specs.View.{view}
use Rattle.documents.specs.Reading.{each_at}
use Rattle.setup.specs.Names.{HoldsNames}
use Rattle.setup.specs.Rows.{row_at}
use Rattle.setup.proofs.rows.read_document.Given as goal

-- what the rest gives after the rows so far is what all documents give, and the names are those of the rows so far
abbrev pub invariant-loop-document : goal.invariant-loop-document
invariant-loop-document l =
    (each_at (row_at l.catalogue) l.rows.items (map view (drop l.document-index l.documents)) ≡ each_at (row_at l.catalogue) [] (map view l.documents))
    × HoldsNames l.names l.rows.items
