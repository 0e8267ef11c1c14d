use Rattle.std.proofs.Common.{◌≡◌, ◌+◌, ℕ, List, [], None, length}
use Rattle.footprint.specs.declared.resource.Resource.{Resource}
use Rattle.coarsen.specs.Subtrees.{Requests}
use Rattle.request_arena.specs.Chains.{chain_from}
use Rattle.request_arena.specs.Lists.{free_nodes}
use Rattle.lock_tree.specs.Queues.{mode_on}
use Rattle.lock_tree.specs.Lines.{line, others}
use Rattle.lock_tree.specs.Chained.{Chains}
use Rattle.lock_tree.specs.Views.{all_waiting, enqueued}
use Rattle.lock_tree.specs.Sound.{Correspond}
use Rattle.lock_tree.proofs.release.leave_all.Given as goal

-- the transaction has left the queues of all resources but those that are left of the plan
abbrev pub invariant-loop-head : goal.invariant-loop-head
invariant-loop-head l = (plan : Requests) × (numbers : List ℕ) × record {
  chain : Chains l.lines l.no plan numbers l.head;
  free : free_nodes l.lines.nodes.held + length plan ≡ free_nodes l.fn.lines.nodes.held + length l.entry.plan.value;
  rest : (other : Resource) → others l.no (line l.lines other) ≡ others l.no (line l.fn.lines other);
  left : (other : Resource) → mode_on other plan ≡ None → line l.lines other ≡ others l.no (line l.fn.lines other);
  same : all_waiting (enqueued l.transactions) ≡ all_waiting (enqueued l.fn.transactions);
  agree : Correspond l.lines [] l.transactions;
}

abbrev pub decreases-loop-head : goal.decreases-loop-head
decreases-loop-head l = length (chain_from l.lines.nodes.held l.head)
