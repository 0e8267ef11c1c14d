use Rattle.catalogue.proofs.Splits.{IsBetween}
use Rattle.catalogue.proofs.split.bounds_passed.Given as goal

abbrev pub invariant-loop-left : goal.invariant-loop-left
invariant-loop-left l = IsBetween l.bounds l.number l.passed l.left

abbrev pub decreases-loop-left : goal.decreases-loop-left
decreases-loop-left l = l.left
