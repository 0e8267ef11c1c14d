use Rattle.std.proofs.Common.{◌*◌, ◌-◌, length}
use Rattle.scheduler_core.specs.Phases.{progress}
use Rattle.scheduler.specs.Schedules.{phases_of, KeepsItsJobs}
use Rattle.dispatcher.specs.Dispatched.{RunsOn}
use Rattle.dispatcher.proofs.alone.make_all.Given as goal

abbrev pub invariant-steps : goal.invariant-steps
invariant-steps g l =
    RunsOn l.fn.scheduler (g.L.Listener.account l.fn.listener) l.scheduler (g.L.Listener.account l.listener)
    × KeepsItsJobs l.scheduler

-- the steps that are left
abbrev pub decreases-steps : goal.decreases-steps
decreases-steps g l = 4 * length l.scheduler.work.entries - progress (phases_of l.scheduler)
