use Rattle.std.proofs.Common.{arith, ap}
use Rattle.scheduler_core.specs.Phases.{progress}
use Rattle.scheduler.specs.Schedules.{Schedule, phases_of}
use Rattle.dispatcher.proofs.Onward.{runs_twice}
use Rattle.dispatcher.proofs.alone.step_on.Goals as goal

pub returns-in_err-go_on-clause-runs : goal.returns-in_err-go_on-clause-runs
returns-in_err-go_on-clause-runs g c =
    runs_twice c.args.scheduler.now c.run_between.new.scheduler c.go_on.new.scheduler
    (g.L.Listener.account c.args.listener.now) (g.L.Listener.account c.run_between.new.listener) (g.L.Listener.account c.go_on.new.listener)
    c.run_between.ensures.runs c.go_on.ensures.runs

pub returns-clause-further : goal.returns-clause-further
returns-clause-further g c = λ _.
    let same = ap (λ (s : Schedule). progress (phases_of s)) (c.in_ok-run_between.ensures.same c.if-branch.false) in
    let one = c.in_ok-go_on.ensures.further in
    omega (arith, same, one)

pub returns-clause-runs : goal.returns-clause-runs
returns-clause-runs g c =
    runs_twice c.args.scheduler.now c.run_between.new.scheduler c.go_on.new.scheduler
    (g.L.Listener.account c.args.listener.now) (g.L.Listener.account c.run_between.new.listener) (g.L.Listener.account c.go_on.new.listener)
    c.run_between.ensures.runs c.go_on.ensures.runs
