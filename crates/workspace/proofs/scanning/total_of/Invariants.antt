use Rattle.std.proofs.Common.{◌≡◌, ◌*◌, pos, ◌+ℤ◌, ◌-ℤ◌, ◌≤ℤ◌, drop}
use Rattle.workspace.specs.Scan.{referred}
use Rattle.workspace.specs.Walks.{total_by_key}
use Rattle.workspace.proofs.scanning.total_of.Given as goal

-- the total so far and that of the rows left are the whole one; and it is no more than 2^63 for each row so far
abbrev pub invariant-loop-row : goal.invariant-loop-row
invariant-loop-row l = record {
  all : l.sum +ℤ total_by_key l.column (referred (drop l.row-index l.rows)) ≡ total_by_key l.column (referred l.rows);
  high : l.sum ≤ℤ pos (l.row-index * 9223372036854775808);
  low : (pos 0 -ℤ pos (l.row-index * 9223372036854775808)) ≤ℤ l.sum;
}
