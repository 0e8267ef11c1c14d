use Rattle.std.proofs.Common.{◌≡◌, ◌≤◌, drop, length}
use Rattle.row_text.specs.Feeding.{table_lines}
use Rattle.row_text.proofs.lines.put_lines.Given as goal

-- the lines of the rows from `left` on are written
abbrev pub invariant-loop-left : goal.invariant-loop-left
invariant-loop-left l = record {
  within : l.start ≤ 2048;
  left : l.left ≤ length l.rows;
  written : drop l.start l.room ≡ table_lines l.catalogue l.fn.table (drop l.left l.rows);
}

abbrev pub decreases-loop-left : goal.decreases-loop-left
decreases-loop-left l = l.left
