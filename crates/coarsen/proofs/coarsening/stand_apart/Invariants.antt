use Rattle.std.proofs.Common.{◌≡◌, None}
use Rattle.std.specs.FinMap.{entries}
use Rattle.coarsen.proofs.Apart.{apart}
use Rattle.coarsen.proofs.coarsening.stand_apart.Given as goal

-- whether what is left stands apart, and from the last one, is whether all do
abbrev pub invariant-loop-resource : goal.invariant-loop-resource
invariant-loop-resource l = apart l.last l.resource-iterator ≡ apart None (entries l.footprint)
