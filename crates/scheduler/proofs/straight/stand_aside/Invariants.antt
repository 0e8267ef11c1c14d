use Rattle.std.proofs.Common.{◌<◌, ◌≤◌, ◌-◌, ℕ, map, slice_get}
use Rattle.scheduler.specs.Schedules.{phase_in}
use Rattle.scheduler.specs.Scheduled.{StandsAside}
use Rattle.scheduler.proofs.straight.stand_aside.Given as goal

abbrev pub invariant-loop-place : goal.invariant-loop-place
invariant-loop-place l = (k : ℕ) → l.from ≤ k → k < l.place → StandsAside (slice_get (map phase_in l.slots) k) (slice_get l.plans.made.items (k - l.plans.from)) l.plan
