use Rattle.scheduler.specs.Schedules.{KeepsItsJobs}
use Rattle.dispatcher.specs.Dispatched.{RunsOn}
use Rattle.dispatcher.proofs.alone.make_chosen.Given as goal

abbrev pub invariant-loop-choice : goal.invariant-loop-choice
invariant-loop-choice g l =
    RunsOn l.fn.scheduler (g.L.Listener.account l.fn.listener) l.scheduler (g.L.Listener.account l.listener)
    × KeepsItsJobs l.scheduler
