use Rattle.std.proofs.Common.{◌≡◌, ◌<◌, ◌≤◌, ◌++◌, drop, length}
use Rattle.row_text.specs.Texts.{line_end, values_text}
use Rattle.row_text.proofs.words.put_values.Given as goal

-- the values from `left` on and the newline are written before what is at the end
abbrev pub invariant-loop-left : goal.invariant-loop-left
invariant-loop-left l = record {
  within : l.start < 2048;
  left : l.left ≤ length l.values;
  written : drop l.start l.room ≡ values_text (drop l.left l.values) ++ (line_end ++ drop l.end l.fn.room);
}

abbrev pub decreases-loop-left : goal.decreases-loop-left
decreases-loop-left l = l.left
