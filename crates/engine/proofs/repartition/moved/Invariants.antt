use Rattle.std.proofs.Common.{◌≡◌, map, take}
use Rattle.engine.specs.Batches.{over_tables}
use Rattle.engine.proofs.repartition.moved.Given as goal

-- those that were moved so far are those that were passed
abbrev pub invariant-loop-one : goal.invariant-loop-one
invariant-loop-one l = l.moved.items ≡ map (over_tables l.catalogue) (take l.one-index l.carried)
