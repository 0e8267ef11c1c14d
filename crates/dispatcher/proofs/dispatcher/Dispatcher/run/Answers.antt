use Rattle.std.proofs.Common.{◌≡◌, ◌≤◌, ap, ◌∙◌, arith, rules}
use Rattle.scheduler.specs.Schedules.{log_of, phases_of}
use Rattle.lanes.specs.Seats.{SchedulerSeatOf, jobs_in}
use Rattle.dispatcher.proofs.Onward.{runs_twice}
use Rattle.dispatcher.proofs.Rests.{done_rests}
use Rattle.dispatcher.proofs.EmptyLanes.{empty_rests, none_lanes, rests_empty}
use Rattle.dispatcher.proofs.dispatcher.Dispatcher.run.Goals as goal

pub dispatch-ended-requires-clause-lanes : goal.dispatch-ended-requires-clause-lanes
dispatch-ended-requires-clause-lanes g c κs within =
    none_lanes c.args.scheduler.now c.self.inside.seat (ap (λ (t : SchedulerSeatOf). jobs_in t.jobs) c.self.view_is ∙ c.requires.empty) c.requires.none_out

-- where all is done
pub returns-then-is_ok-clause-none_out : goal.returns-then-is_ok-clause-none_out
returns-then-is_ok-clause-none_out g c = done_rests (log_of c.dispatch-ended.new.scheduler.work) (phases_of c.dispatch-ended.new.scheduler) (search rules)

pub returns-then-is_ok-clause-empty : goal.returns-then-is_ok-clause-empty
returns-then-is_ok-clause-empty g c =
    rests_empty c.dispatch-ended.new.scheduler c.dispatch-ended.new.self c.dispatch-ended.ensures.lanes.1 (done_rests (log_of c.dispatch-ended.new.scheduler.work) (phases_of c.dispatch-ended.new.scheduler) (search rules))

-- where an allocation failed, and all jobs have come back
pub returns-then-is_ok-2-clause-runs : goal.returns-then-is_ok-2-clause-runs
returns-then-is_ok-2-clause-runs g c =
    runs_twice c.args.scheduler.now c.loop.scheduler c.take_in_until.new.scheduler
    (g.L.Listener.account c.args.listener.now) (g.L.Listener.account c.loop.listener) (g.L.Listener.account c.take_in_until.new.listener) c.loop.invariant.1 c.take_in_until.ensures.runs

pub returns-then-is_ok-2-clause-none_out : goal.returns-then-is_ok-2-clause-none_out
returns-then-is_ok-2-clause-none_out g c =
    let few : jobs_in c.take_in_until.new.self.jobs ≤ 0 = search rules in
    let none : jobs_in c.take_in_until.new.self.jobs ≡ 0 = omega (arith, few) in
    empty_rests c.take_in_until.new.scheduler c.take_in_until.new.self c.take_in_until.ensures.lanes.1 none

pub loop-preserved : goal.loop-preserved
loop-preserved g c = (
  (c.take_in_until.ensures.lanes.0 ∙ c.loop.invariant.0.0, c.take_in_until.ensures.lanes.1),
  runs_twice c.args.scheduler.now c.loop.scheduler c.take_in_until.new.scheduler
      (g.L.Listener.account c.args.listener.now) (g.L.Listener.account c.loop.listener) (g.L.Listener.account c.take_in_until.new.listener) c.loop.invariant.1 c.take_in_until.ensures.runs,
)
