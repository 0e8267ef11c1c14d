use Rattle.std.proofs.Common.{◌∙◌}
use Rattle.dispatcher.proofs.Onward.{runs_twice}
use Rattle.dispatcher.proofs.dispatcher.Dispatcher.take_in_until.Goals as goal

-- where nothing was found, and nothing was run here
pub loop-preserved : goal.loop-preserved
loop-preserved g c = rw c.run_waiting_job.ensures (
  (c.take_in.ensures.lanes.0 ∙ c.loop.invariant.0.0, c.take_in.ensures.lanes.1),
  runs_twice c.args.scheduler.now c.loop.scheduler c.take_in.new.scheduler
      (g.L.Listener.account c.args.listener.now) (g.L.Listener.account c.loop.listener) (g.L.Listener.account c.take_in.new.listener) c.loop.invariant.1 c.take_in.ensures.runs,
)

-- where a job was run here
pub loop-preserved-then-run_waiting_job : goal.loop-preserved-then-run_waiting_job
loop-preserved-then-run_waiting_job g c = rw c.run_waiting_job.ensures (
  (c.take_in.ensures.lanes.0 ∙ c.loop.invariant.0.0, c.take_in.ensures.lanes.1),
  runs_twice c.args.scheduler.now c.loop.scheduler c.take_in.new.scheduler
      (g.L.Listener.account c.args.listener.now) (g.L.Listener.account c.loop.listener) (g.L.Listener.account c.take_in.new.listener) c.loop.invariant.1 c.take_in.ensures.runs,
)

-- where a result was settled
pub loop-preserved-then-branch : goal.loop-preserved-then-branch
loop-preserved-then-branch g c = (
  (c.take_in.ensures.lanes.0 ∙ c.loop.invariant.0.0, c.take_in.ensures.lanes.1),
  runs_twice c.args.scheduler.now c.loop.scheduler c.take_in.new.scheduler
      (g.L.Listener.account c.args.listener.now) (g.L.Listener.account c.loop.listener) (g.L.Listener.account c.take_in.new.listener) c.loop.invariant.1 c.take_in.ensures.runs,
)

pub returns-in_err-take_in-clause-runs : goal.returns-in_err-take_in-clause-runs
returns-in_err-take_in-clause-runs g c =
    runs_twice c.args.scheduler.now c.loop.scheduler c.take_in.new.scheduler
    (g.L.Listener.account c.args.listener.now) (g.L.Listener.account c.loop.listener) (g.L.Listener.account c.take_in.new.listener) c.loop.invariant.1 c.take_in.ensures.runs

pub returns-then-jobs_out-most-clause-runs : goal.returns-then-jobs_out-most-clause-runs
returns-then-jobs_out-most-clause-runs g c =
    runs_twice c.args.scheduler.now c.loop.scheduler c.take_in.new.scheduler
    (g.L.Listener.account c.args.listener.now) (g.L.Listener.account c.loop.listener) (g.L.Listener.account c.take_in.new.listener) c.loop.invariant.1 c.take_in.ensures.runs
