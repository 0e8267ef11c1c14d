use Rattle.std.proofs.Common.{◌≡◌, ◌≤◌, ◌+◌, ◌++◌, ℕ, List, [], None, length, take, drop}
use Rattle.std.specs.List.{AllByRecursion}
use Rattle.std.specs.HashMap.{spare}
use Rattle.footprint.specs.declared.resource.Resource.{Resource}
use Rattle.footprint.specs.InTreeOrder.{IsInTreeOrder}
use Rattle.request_arena.specs.Lists.{free_nodes}
use Rattle.lock_tree.specs.Queues.{asks, mode_on}
use Rattle.lock_tree.specs.Lines.{line, AllUnder, numbers_of}
use Rattle.lock_tree.specs.Numbered.{IsNumbered}
use Rattle.lock_tree.specs.Granted.{AreGranted}
use Rattle.lock_tree.specs.Chained.{Chains, IsTail}
use Rattle.lock_tree.specs.Steps.{OthersChained}
use Rattle.lock_tree.proofs.enqueueing.enqueue_requests.Given as goal

-- with the requests that are left, the queues are those with the whole plan, and those so far are chained
abbrev pub invariant-loop-resource : goal.invariant-loop-resource
invariant-loop-resource l = record {
  numbered : IsNumbered l.lines None;
  granted : AreGranted l.lines;
  free : free_nodes l.lines.nodes.held + l.resource-index ≡ free_nodes l.fn.lines.nodes.held;
  joined : (other : Resource) → line l.lines other ++ asks l.no (mode_on other (drop l.resource-index l.plan)) [] ≡ line l.fn.lines other ++ asks l.no (mode_on other l.plan) [];
  room : length l.plan ≤ spare l.lines.numbers + l.resource-index;
  above : AllByRecursion (λ request. AllUnder l.no (numbers_of (line l.lines request.0))) (drop l.resource-index l.plan);
  apart : IsInTreeOrder (drop l.resource-index l.plan);
  others : OthersChained l.no l.fn.lines l.lines;
  chained : (numbers : List ℕ) × Chains l.lines l.no (take l.resource-index l.plan) numbers l.head;
  tail : IsTail l.lines l.no l.head l.tail;
}
