use Rattle.std.proofs.Common.{sym, ◌∙◌}
use Rattle.dispatcher.proofs.Onward.{runs_twice}
use Rattle.dispatcher.proofs.EmptyLanes.{empty_rests, none_kept}
use Rattle.dispatcher.proofs.Resting.{waits_for_none}
use Rattle.dispatcher.proofs.dispatcher.Dispatcher.dispatch.Goals as goal

-- where there was something to do
pub loop-preserved : goal.loop-preserved
loop-preserved g c = (
  (c.step.ensures.lanes.0 ∙ c.loop.invariant.0.0, c.step.ensures.lanes.1),
  runs_twice c.args.scheduler.now c.loop.scheduler c.step.new.scheduler
      (g.L.Listener.account c.args.listener.now) (g.L.Listener.account c.loop.listener) (g.L.Listener.account c.step.new.listener) c.loop.invariant.1 c.step.ensures.runs,
)

pub returns-in_err-step-clause-runs : goal.returns-in_err-step-clause-runs
returns-in_err-step-clause-runs g c =
    runs_twice c.args.scheduler.now c.loop.scheduler c.step.new.scheduler
    (g.L.Listener.account c.args.listener.now) (g.L.Listener.account c.loop.listener) (g.L.Listener.account c.step.new.listener) c.loop.invariant.1 c.step.ensures.runs

-- where no job was out
pub next_event-none-requires : goal.next_event-none-requires
next_event-none-requires g c =
    none_kept c.step.new.scheduler (empty_rests c.step.new.scheduler c.step.new.self c.step.ensures.lanes.1 (sym c.jobs_out-out.ensures.out ∙ c.if-out-eq0.true))

pub returns-then-out-eq0-clause-runs : goal.returns-then-out-eq0-clause-runs
returns-then-out-eq0-clause-runs g c =
    runs_twice c.args.scheduler.now c.loop.scheduler c.step.new.scheduler
    (g.L.Listener.account c.args.listener.now) (g.L.Listener.account c.loop.listener) (g.L.Listener.account c.step.new.listener) c.loop.invariant.1 c.step.ensures.runs

pub returns-then-out-eq0-clause-done : goal.returns-then-out-eq0-clause-done
returns-then-out-eq0-clause-done g c =
    waits_for_none c.step.new.scheduler c.step.new.self c.next_event-none.result c.step.ensures.lanes.1 (c.in_ok-step.ensures.rest c.if-not-branch.true)
    (sym c.jobs_out-out.ensures.out ∙ c.if-out-eq0.true) c.jobs_out-out.ensures.lanes c.next_event-none.ensures.enabled

-- where the workers were waited for
pub returns-in_err-take_in_until-clause-runs : goal.returns-in_err-take_in_until-clause-runs
returns-in_err-take_in_until-clause-runs g c =
    runs_twice c.args.scheduler.now c.step.new.scheduler c.take_in_until.new.scheduler (g.L.Listener.account c.args.listener.now) (g.L.Listener.account c.step.new.listener) (g.L.Listener.account c.take_in_until.new.listener)
    (runs_twice c.args.scheduler.now c.loop.scheduler c.step.new.scheduler
    (g.L.Listener.account c.args.listener.now) (g.L.Listener.account c.loop.listener) (g.L.Listener.account c.step.new.listener) c.loop.invariant.1 c.step.ensures.runs) c.take_in_until.ensures.runs

pub loop-preserved-in_ok-take_in_until : goal.loop-preserved-in_ok-take_in_until
loop-preserved-in_ok-take_in_until g c = (
  (c.take_in_until.ensures.lanes.0 ∙ c.step.ensures.lanes.0 ∙ c.loop.invariant.0.0, c.take_in_until.ensures.lanes.1),
  runs_twice c.args.scheduler.now c.step.new.scheduler c.take_in_until.new.scheduler (g.L.Listener.account c.args.listener.now) (g.L.Listener.account c.step.new.listener) (g.L.Listener.account c.take_in_until.new.listener)
      (runs_twice c.args.scheduler.now c.loop.scheduler c.step.new.scheduler
      (g.L.Listener.account c.args.listener.now) (g.L.Listener.account c.loop.listener) (g.L.Listener.account c.step.new.listener) c.loop.invariant.1 c.step.ensures.runs) c.take_in_until.ensures.runs,
)
