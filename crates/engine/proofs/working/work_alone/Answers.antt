use Rattle.std.proofs.Common.{sym, subst, ◌∙◌, arith}
use Rattle.engine.specs.declared.stage.Begun.{Begun as BegunOf}
use Rattle.engine.specs.Stages.{IsBegun}
use Rattle.engine.proofs.Stops.{over, begun_on, stopped_so}
use Rattle.engine.proofs.Told.{ended_told, few_entries}
use Rattle.engine.proofs.working.work_alone.Goals.{in-Ok-run_left, in-Err-run_left}
use Rattle.engine.proofs.working.work_alone.Goals as goal

pub run_left-requires-clause-numbered : goal.run_left-requires-clause-numbered
run_left-requires-clause-numbered g c =
    let is = c.in-Ok.ensures.begun in
    let many = few_entries c.args.configuration.now.procs.tables c.args.first c.in-Ok.begun is in
    (sym is.schedule.numbered, c.len-count.ensures ∙ sym many, omega (arith, c.len-count.ensures, is.from.few))

pub end_run-requires-clause-begun : goal.end_run-requires-clause-begun
end_run-requires-clause-begun g c =
    let tables = c.args.configuration.now.procs.tables in
    let run = c.run_left in
    let s = run.new.scheduler in
    let same = over tables c.args.first c.args.stage c.in-Ok.begun s c.in-Ok.ensures.begun c.in-Ok.ensures.start c.in-Ok.ensures.same
    run.ensures.work run.ensures.none_out run.ensures.settled in
    let on = begun_on tables c.args.first c.args.stage c.in-Ok.begun s c.in-Ok.ensures.begun c.in-Ok.ensures.start c.in-Ok.ensures.same
    run.ensures.work run.ensures.none_out run.ensures.settled in
    subst (λ ts. IsBegun ts c.args.first (record { attempts = c.in-Ok.begun.attempts; scheduler = s })) (sym same) on

-- no thread is refused, since none is asked for
pub returns-clause-stop : goal.returns-clause-stop
returns-clause-stop g c =
    let tables = c.args.configuration.now.procs.tables in
    let run = c.run_left in
    stopped_so tables c.args.first c.args.stage c.in-Ok.begun run.new.scheduler c.in-Ok.ensures.begun c.in-Ok.ensures.start c.in-Ok.ensures.same
    run.ensures.work run.ensures.none_out run.ensures.settled c.end_run.result c.match-run_left.ran c.end_run.ensures.stage c.end_run.ensures.refusal
    (elim c.match-run_left.branch [
      | in-Ok-run_left w ↦ (λ e. absurd (let is = w.ran-is in cc))
      | in-Err-run_left w ↦ (λ e. absurd (let is = w.ran-is in cc))
    ])

pub returns-clause-told_end : goal.returns-clause-told_end
returns-clause-told_end g c =
    let tables = c.args.configuration.now.procs.tables in
    let s = c.run_left.new.scheduler in
    let b : BegunOf = record { attempts = c.in-Ok.begun.attempts; scheduler = s } in
    let on = begun_on tables c.args.first c.args.stage c.in-Ok.begun s c.in-Ok.ensures.begun c.in-Ok.ensures.start c.in-Ok.ensures.same
    c.run_left.ensures.work c.run_left.ensures.none_out c.run_left.ensures.settled in
    ended_told tables c.args.first _ b c.end_run.result (g.L.Listener.account c.run_left.new.listener) on c.end_run.ensures.done c.end_run.ensures.ended c.run_left.ensures.told.0
