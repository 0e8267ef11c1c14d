use Rattle.std.proofs.Common.{◌-◌, length}
use Rattle.lock_tree.specs.Lines.{nodes_of, in_order}
use Rattle.lock_tree.specs.Granted.{IsFront}
use Rattle.lock_tree.proofs.granting.extended.Given as goal

abbrev pub invariant-loop-line : goal.invariant-loop-line
invariant-loop-line l = IsFront (in_order l.lines.nodes l.number) (nodes_of l.lines.nodes l.number) l.line

abbrev pub decreases-loop-line : goal.decreases-loop-line
decreases-loop-line l = length (nodes_of l.lines.nodes l.number) - l.line.granted
