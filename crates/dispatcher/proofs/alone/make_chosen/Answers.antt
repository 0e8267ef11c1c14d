use Rattle.dispatcher.proofs.Onward.{runs_twice}
use Rattle.dispatcher.proofs.alone.make_chosen.Goals as goal

pub returns-in_err-go_on-clause-runs : goal.returns-in_err-go_on-clause-runs
returns-in_err-go_on-clause-runs g c =
    runs_twice c.args.scheduler.now c.loop-choice.scheduler c.go_on.new.scheduler
    (g.L.Listener.account c.args.listener.now) (g.L.Listener.account c.loop-choice.listener) (g.L.Listener.account c.go_on.new.listener)
    c.loop-choice.invariant.0 c.go_on.ensures.runs

pub loop-choice-preserved : goal.loop-choice-preserved
loop-choice-preserved g c = (
  runs_twice c.args.scheduler.now c.loop-choice.scheduler c.go_on.new.scheduler
      (g.L.Listener.account c.args.listener.now) (g.L.Listener.account c.loop-choice.listener) (g.L.Listener.account c.go_on.new.listener)
      c.loop-choice.invariant.0 c.go_on.ensures.runs,
  c.go_on.ensures.keeps,
)
