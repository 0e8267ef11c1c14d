use Rattle.row_text.specs.Texts.{row_lines}
use Rattle.row_text.specs.Feeding.{IsFed}
use Rattle.row_text.proofs.MergedRows.{first_tables}
use Rattle.row_text.proofs.rows_in_order.row_text_digest.Given as goal

-- the rows of the tables before this one were fed
abbrev pub invariant-loop-place : goal.invariant-loop-place
invariant-loop-place g l = IsFed l.feed (row_lines l.catalogue (first_tables l.place (g.V.RowView.rows l.view)))
