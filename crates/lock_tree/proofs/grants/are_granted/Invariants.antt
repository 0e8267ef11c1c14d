use Rattle.std.proofs.Common.{◌≡◌, ℕ, List, IfSome, length}
use Rattle.coarsen.specs.Subtrees.{Requests}
use Rattle.request_arena.specs.Chains.{chain_from}
use Rattle.request_arena.specs.Lists.{IsLive}
use Rattle.lock_tree.specs.Lines.{line}
use Rattle.lock_tree.specs.Known.{granted_in}
use Rattle.lock_tree.specs.Chained.{ArePlaced}
use Rattle.lock_tree.proofs.grants.are_granted.Given as goal

-- what is left of the plan decides
abbrev pub invariant-loop-head : goal.invariant-loop-head
invariant-loop-head l = (plan : Requests) × (numbers : List ℕ) × IfSome l.head (λ a. IsLive l.lines.nodes a) × ArePlaced l.lines l.entry.no plan numbers (chain_from l.lines.nodes.held l.head)
    × (granted_in (line l.lines) l.entry.no plan ≡ granted_in (line l.lines) l.entry.no l.entry.plan.value)

abbrev pub decreases-loop-head : goal.decreases-loop-head
decreases-loop-head l = length (chain_from l.lines.nodes.held l.head)
