use Rattle.std.proofs.Common.{◌≡◌, nat_le, count_by, take}
use Rattle.catalogue.proofs.split.passed_of.Given as goal

-- so many of the bounds so far
abbrev pub invariant-loop-bound : goal.invariant-loop-bound
invariant-loop-bound l = l.passed ≡ count_by (λ b. nat_le b l.number) (take l.bound-index l.bounds)
