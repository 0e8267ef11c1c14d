use Rattle.dispatcher.specs.Dispatched.{AreStillInLanes, RunsOn}
use Rattle.dispatcher.proofs.dispatcher.Dispatcher.take_in_until.Given as goal

-- the run went on, and what is out is in the lanes
abbrev pub invariant-loop : goal.invariant-loop
invariant-loop g l =
    AreStillInLanes l.scheduler l.fn.self l.self
    × RunsOn l.fn.scheduler (g.L.Listener.account l.fn.listener) l.scheduler (g.L.Listener.account l.listener)
