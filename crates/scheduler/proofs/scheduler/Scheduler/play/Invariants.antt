use Rattle.std.proofs.Common.{◌≡◌, ◌≤◌, length, take}
use Rattle.std.specs.Vec.{vec_capacity}
use Rattle.scheduler_core.specs.Events.{Played}
use Rattle.scheduler.specs.Schedules.{log_of, phases_of, KeepsItsJobs}
use Rattle.scheduler.specs.Moments.{SettlesTakeNoMemory}
use Rattle.scheduler.proofs.scheduler.Scheduler.play.Given as goal

abbrev pub invariant-loop-event : goal.invariant-loop-event
invariant-loop-event l =
    Played l.fn.self.work.arena l.fn.self.work.first (log_of l.fn.self.work) (phases_of l.fn.self) (take l.event-index l.events) l.answers.items (phases_of l.self)
    × SettlesTakeNoMemory (take l.event-index l.events) l.answers.items
    × (l.self.work ≡ l.fn.self.work)
    × KeepsItsJobs l.self
    × (length l.answers.items ≡ l.event-index)
    × (length l.events ≤ vec_capacity l.answers)
