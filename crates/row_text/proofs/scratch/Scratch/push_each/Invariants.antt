use Rattle.std.proofs.Common.{◌≡◌, ◌++◌, drop}
use Rattle.row_text.specs.Feeding.{table_lines}
use Rattle.row_text.proofs.scratch.Scratch.push_each.Given as goal

-- the lines of the rows so far were appended
abbrev pub invariant-loop-row : goal.invariant-loop-row
invariant-loop-row l = l.text.items ++ table_lines l.catalogue l.table (drop l.row-index l.rows) ≡ l.fn.text.items ++ table_lines l.catalogue l.table l.rows
