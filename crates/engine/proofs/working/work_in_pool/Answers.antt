use Rattle.std.proofs.Common.{sym, subst}
use Rattle.engine.specs.declared.stage.Begun.{Begun as BegunOf}
use Rattle.engine.specs.Stages.{IsBegun}
use Rattle.engine.proofs.Stops.{over, begun_on, stopped_so}
use Rattle.engine.proofs.Told.{ended_told}
use Rattle.engine.proofs.working.work_in_pool.Goals as goal

pub end_run-requires-clause-begun : goal.end_run-requires-clause-begun
end_run-requires-clause-begun g c =
    let tables = c.args.configuration.now.procs.tables in
    let run = c.run-ran in
    let s = run.new.scheduler in
    let same = over tables c.args.first c.args.stage c.in-Ok.begun s c.in-Ok.ensures.begun c.in-Ok.ensures.start c.in-Ok.ensures.same
    run.ensures.work run.ensures.none_out run.ensures.settled in
    let on = begun_on tables c.args.first c.args.stage c.in-Ok.begun s c.in-Ok.ensures.begun c.in-Ok.ensures.start c.in-Ok.ensures.same
    run.ensures.work run.ensures.none_out run.ensures.settled in
    subst (λ ts. IsBegun ts c.args.first (record { attempts = c.in-Ok.begun.attempts; scheduler = s })) (sym same) on

pub returns-clause-stop : goal.returns-clause-stop
returns-clause-stop g c =
    let tables = c.args.configuration.now.procs.tables in
    let run = c.run-ran in
    stopped_so tables c.args.first c.args.stage c.in-Ok.begun run.new.scheduler c.in-Ok.ensures.begun c.in-Ok.ensures.start c.in-Ok.ensures.same
    run.ensures.work run.ensures.none_out run.ensures.settled c.end_run.result run.result c.end_run.ensures.stage c.end_run.ensures.refusal run.ensures.thread

pub returns-clause-told_end : goal.returns-clause-told_end
returns-clause-told_end g c =
    let tables = c.args.configuration.now.procs.tables in
    let run = c.run-ran in
    let s = run.new.scheduler in
    let b : BegunOf = record { attempts = c.in-Ok.begun.attempts; scheduler = s } in
    let on = begun_on tables c.args.first c.args.stage c.in-Ok.begun s c.in-Ok.ensures.begun c.in-Ok.ensures.start c.in-Ok.ensures.same
    run.ensures.work run.ensures.none_out run.ensures.settled in
    ended_told tables c.args.first _ b c.end_run.result (g.L.Listener.account run.new.listener) on c.end_run.ensures.done c.end_run.ensures.ended run.ensures.told.0
