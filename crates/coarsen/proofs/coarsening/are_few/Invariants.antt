use Rattle.std.proofs.Common.{◌+◌, ◌≤◌}
use Rattle.footprint.specs.declared.resource.Resource.{Resource}
use Rattle.coarsen.specs.Coarsening.{children}
use Rattle.coarsen.proofs.Counts.{count}
use Rattle.coarsen.proofs.coarsening.are_few.Given as goal

-- each child that isn't left has taken some of the room
abbrev pub invariant-loop-resource : goal.invariant-loop-resource
invariant-loop-resource l = (q : Resource) → children l.level l.footprint q + l.room ≤ count l.level l.resource-iterator q + l.threshold
