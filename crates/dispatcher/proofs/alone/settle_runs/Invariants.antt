use Rattle.std.proofs.Common.{◌≡◌, ◌<◌, ℕ, false, slice_get}
use Rattle.scheduler_core.specs.Phases.{was_run}
use Rattle.scheduler.specs.Schedules.{phases_of, KeepsItsJobs}
use Rattle.dispatcher.specs.Dispatched.{RunsOn}
use Rattle.dispatcher.proofs.alone.settle_runs.Given as goal

-- of the places before, none was run
abbrev pub invariant-loop-place : goal.invariant-loop-place
invariant-loop-place g l =
    RunsOn l.fn.scheduler (g.L.Listener.account l.fn.listener) l.scheduler (g.L.Listener.account l.listener)
    × KeepsItsJobs l.scheduler
    × ((place : ℕ) → place < l.place → was_run (slice_get (phases_of l.scheduler) place) ≡ false)
