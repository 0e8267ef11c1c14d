use Rattle.std.proofs.Common.{◌≡◌, ◌∷◌, filter, take}
use Rattle.scheduler_core.specs.declared.event.Event.TheVariants.{Admit}
use Rattle.scheduler_core.specs.Events.{enabled}
use Rattle.scheduler_core.specs.Choices.{next_steps}
use Rattle.scheduler.specs.Schedules.{log_of, phases_of}
use Rattle.scheduler.proofs.scheduler.Scheduler.enabled_events.Given as goal

abbrev pub invariant-loop-place : goal.invariant-loop-place
invariant-loop-place l =
    l.events.items ≡ filter (enabled l.self.work.arena l.self.work.first (log_of l.self.work) (phases_of l.self)) (Admit ∷ next_steps l.self.work.first (take l.place (phases_of l.self)))
