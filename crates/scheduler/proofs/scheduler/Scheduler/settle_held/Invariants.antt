use Rattle.std.proofs.Common.{◌≡◌, length}
use Rattle.scheduler.specs.Schedules.{phases_of, KeepsItsJobs}
use Rattle.scheduler.proofs.Settles.{settled_before}
use Rattle.scheduler.proofs.scheduler.Scheduler.settle_held.Given as goal

abbrev pub invariant-loop-place : goal.invariant-loop-place
invariant-loop-place l =
    (phases_of l.self ≡ settled_before l.place (phases_of l.fn.self))
    × (l.self.work ≡ l.fn.self.work)
    × KeepsItsJobs l.self
    × (length l.self.slots ≡ length l.fn.self.slots)
