use Rattle.dispatcher.proofs.Onward.{runs_twice}
use Rattle.dispatcher.proofs.alone.make_all.Goals as goal

pub returns-in_err-step_on-clause-runs : goal.returns-in_err-step_on-clause-runs
returns-in_err-step_on-clause-runs g c =
    runs_twice c.args.scheduler.now c.steps.scheduler c.step_on.new.scheduler
    (g.L.Listener.account c.args.listener.now) (g.L.Listener.account c.steps.listener) (g.L.Listener.account c.step_on.new.listener) c.steps.invariant.0 c.step_on.ensures.runs

pub returns-then-not-branch-clause-runs : goal.returns-then-not-branch-clause-runs
returns-then-not-branch-clause-runs g c =
    runs_twice c.args.scheduler.now c.steps.scheduler c.step_on.new.scheduler
    (g.L.Listener.account c.args.listener.now) (g.L.Listener.account c.steps.listener) (g.L.Listener.account c.step_on.new.listener) c.steps.invariant.0 c.step_on.ensures.runs

pub steps-preserved : goal.steps-preserved
steps-preserved g c = (
  runs_twice c.args.scheduler.now c.steps.scheduler c.step_on.new.scheduler
      (g.L.Listener.account c.args.listener.now) (g.L.Listener.account c.steps.listener) (g.L.Listener.account c.step_on.new.listener) c.steps.invariant.0 c.step_on.ensures.runs,
  c.step_on.ensures.keeps,
)
