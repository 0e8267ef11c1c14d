use Rattle.std.proofs.Common.{◌≡◌}
use Rattle.row_text.specs.Texts.{row_lines}
use Rattle.row_text.proofs.MergedRows.{first_tables}
use Rattle.row_text.proofs.listing.rows_text.Given as goal

-- the lines of the rows of the tables before this one were appended
abbrev pub invariant-loop-place : goal.invariant-loop-place
invariant-loop-place g l = l.text.items ≡ row_lines l.catalogue (first_tables l.place (g.V.RowView.rows l.view))
