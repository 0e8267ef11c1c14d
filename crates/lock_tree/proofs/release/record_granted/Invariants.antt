use Rattle.std.proofs.Common.{◌≡◌, ◌-◌, drop, slice_get}
use Rattle.lock_tree.specs.Queues.{granted}
use Rattle.lock_tree.specs.Lines.{nodes_of, in_order}
use Rattle.lock_tree.specs.Views.{all_waiting, enqueued}
use Rattle.lock_tree.specs.Sound.{Correspond}
use Rattle.lock_tree.proofs.release.record_granted.Given as goal

-- each knows whether it is ready, but for those who are left to record_ready
abbrev pub invariant-loop-place : goal.invariant-loop-place
invariant-loop-place l = record {
  first : l.first ≡ slice_get (nodes_of l.lines.nodes l.number) l.place;
  same : all_waiting (enqueued l.transactions) ≡ all_waiting (enqueued l.fn.transactions);
  agree : Correspond l.lines (drop l.place (granted (in_order l.lines.nodes l.number))) l.transactions;
}

abbrev pub decreases-loop-place : goal.decreases-loop-place
decreases-loop-place l = l.granted - l.place
