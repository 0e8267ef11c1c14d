use Rattle.std.proofs.Common.{◌≡◌, ◌++◌, ◌-◌, ℕ, List, drop, length}
use Rattle.row_text.specs.Feeding.{IsFed, table_lines}
use Rattle.row_text.proofs.rows_in_order.feed_rows.Given as goal

-- the lines of the rows so far were fed
abbrev pub invariant-loop-start : goal.invariant-loop-start
invariant-loop-start l = (all : List ℕ) → IsFed l.fn.feed all → (now : List ℕ) × IsFed l.feed now
    × (now ++ table_lines l.catalogue l.table (drop l.start l.rows) ≡ all ++ table_lines l.catalogue l.table l.rows)

abbrev pub decreases-loop-start : goal.decreases-loop-start
decreases-loop-start l = length l.rows - l.start
