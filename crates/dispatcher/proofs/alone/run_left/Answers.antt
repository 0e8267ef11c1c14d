use Rattle.std.proofs.Common.{rules}
use Rattle.scheduler.specs.Schedules.{log_of, phases_of}
use Rattle.dispatcher.proofs.Onward.{runs_twice}
use Rattle.dispatcher.proofs.Rests.{done_rests}
use Rattle.dispatcher.proofs.alone.run_left.Goals as goal

pub returns-then-is_err-clause-told : goal.returns-then-is_err-clause-told
returns-then-is_err-clause-told g c =
    let runs = runs_twice c.args.scheduler.now c.make_all-ended.new.scheduler c.settle_runs.new.scheduler
    (g.L.Listener.account c.args.listener.now) (g.L.Listener.account c.make_all-ended.new.listener) (g.L.Listener.account c.settle_runs.new.listener)
    c.make_all-ended.ensures.runs c.settle_runs.ensures.runs in
    (runs.told, runs.onward)

pub returns-else-is_err-clause-none_out : goal.returns-else-is_err-clause-none_out
returns-else-is_err-clause-none_out g c =
    done_rests (log_of c.make_all-ended.new.scheduler.work) (phases_of c.make_all-ended.new.scheduler) (search rules)
