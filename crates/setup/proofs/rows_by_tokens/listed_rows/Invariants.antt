use Rattle.std.proofs.Common.{◌≡◌, [], List, Ok, length}
use Rattle.serde_json.specs.Data.{Data}
use Rattle.documents.specs.Reading.{each_at}
use Rattle.value_tokens.specs.Documents.{AreDocuments}
use Rattle.setup.specs.Names.{HoldsNames}
use Rattle.setup.specs.Rows.{row_at}
use Rattle.setup.proofs.rows_by_tokens.listed_rows.Given as goal

-- the tokens that are taken are of documents that give the rows so far, and the names are those of these rows
abbrev pub invariant-rows : goal.invariant-rows
invariant-rows l = (listed : List Data) × AreDocuments 124 l.initial.reader listed l.reader × (each_at (row_at l.catalogue) [] listed ≡ Ok l.rows.items) × HoldsNames l.names l.rows.items

abbrev pub decreases-rows : goal.decreases-rows
decreases-rows l = length l.reader
