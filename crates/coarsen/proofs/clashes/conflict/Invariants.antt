use Rattle.std.proofs.Common.{◌+◌, length}
use Rattle.std.specs.List.{Contains}
use Rattle.footprint.specs.declared.resource.Resource.{Resource}
use Rattle.footprint.specs.InTreeOrder.{IsInTreeOrder}
use Rattle.modes.specs.declared.mode.Mode.{Mode}
use Rattle.coarsen.specs.Clashes.{ModesClash}
use Rattle.coarsen.proofs.clashes.conflict.Given as goal

-- what is left of each list is in order, and each conflict is one of what is left
abbrev pub invariant-loop-a : goal.invariant-loop-a
invariant-loop-a l = record {
  left : ModesClash l.initial.first l.initial.second → ModesClash l.first l.second;
  of_first : (x : Resource × Mode) → Contains l.first x → Contains l.initial.first x;
  of_second : (x : Resource × Mode) → Contains l.second x → Contains l.initial.second x;
  first_ordered : IsInTreeOrder l.first;
  second_ordered : IsInTreeOrder l.second;
}

abbrev pub decreases-loop-a : goal.decreases-loop-a
decreases-loop-a l = length l.first + length l.second
