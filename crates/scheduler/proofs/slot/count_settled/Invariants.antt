use Rattle.std.proofs.Common.{◌≡◌, ◌<◌, ◌≤◌, ◌-◌, ℕ, true, length, map, slice_get}
use Rattle.scheduler_core.specs.Phases.{is_settled}
use Rattle.scheduler.specs.Schedules.{phase_in}
use Rattle.scheduler.proofs.slot.count_settled.Given as goal

abbrev pub invariant-loop-count : goal.invariant-loop-count
invariant-loop-count l = ((place : ℕ) → place < l.count → is_settled (slice_get (map phase_in l.slots) place) ≡ true) × (l.count ≤ length l.slots) × (l.known ≤ l.count)

abbrev pub decreases-loop-count : goal.decreases-loop-count
decreases-loop-count l = length l.slots - l.count
