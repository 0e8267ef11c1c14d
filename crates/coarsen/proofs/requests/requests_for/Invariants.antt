use Rattle.std.proofs.Common.{◌≡◌, max}
use Rattle.std.specs.FinMap.{entries}
use Rattle.modes.specs.Rights.{rank_of}
use Rattle.footprint.specs.declared.resource.Resource.{Resource}
use Rattle.coarsen.specs.Subtrees.{greatest, is_same, holds, own_on, subtree_on}
use Rattle.coarsen.proofs.requests.requests_for.Given as goal

-- what is requested and what is left are the whole footprint's rights
abbrev pub invariant-loop-resource : goal.invariant-loop-resource
invariant-loop-resource l = record {
  owns : (r : Resource) → max (own_on l.draft r) (greatest rank_of (is_same r) l.resource-iterator) ≡ greatest rank_of (is_same r) (entries l.footprint);
  subtrees : (r : Resource) → max (subtree_on l.draft r) (greatest rank_of (holds r) l.resource-iterator) ≡ greatest rank_of (holds r) (entries l.footprint);
}
