use Rattle.std.proofs.Common.{◌≡◌, false, is_some, ap, rules}
use Rattle.requests.specs.ProcLists.{ProcsParts}
use Rattle.running.specs.EngineRuns.{has_ended}
use Rattle.std.proofs.lemmas.Result.{IfOk-at_ok}
use Rattle.calvin.proofs.ListedRows.{list_done, list_followed, list_refused, still_within}
use Rattle.calvin.proofs.listing.list_on.Goals as goal

pub print_followed-requires-clause-idle : goal.print_followed-requires-clause-idle
print_followed-requires-clause-idle g c = (c.run_engine-ended.ensures.run.followed (ap is_some c.in-Some.is)).idle

pub print_followed-requires-clause-place : goal.print_followed-requires-clause-place
print_followed-requires-clause-place g c =
    still_within c.args.printing.place _ _ (ap (λ (procs : ProcsParts). procs.tables) c.run_engine-ended.ensures.run.setting.procs) c.requires.place

pub print_rows-requires-clause-idle : goal.print_rows-requires-clause-idle
print_rows-requires-clause-idle g c = IfOk-at_ok _ c.in-Ok.is c.run_engine-ended.ensures.run.idle

pub print_rows-requires-clause-place : goal.print_rows-requires-clause-place
print_rows-requires-clause-place g c =
    still_within c.args.printing.place _ _ (ap (λ (procs : ProcsParts). procs.tables) c.run_engine-ended.ensures.run.setting.procs) c.requires.place

pub returns-in-Some : goal.returns-in-Some
returns-in-Some g c = λ document settings table made digest at.
    list_followed _ _ c.args.options.now.alone c.args.printing.document c.args.reading table c.args.printing.place document settings at _ _ _ _ _ _ c.run_engine-ended.result made digest
    c.run_engine-ended.ensures.run c.run_engine-ended.ensures.threadless _ _ _ (ap is_some c.in-Some.is) c.print_followed.ensures

pub returns-in-Ok : goal.returns-in-Ok
returns-in-Ok g c = λ document settings table made digest at.
    let goes_on : has_ended c.run_engine-ended.result ≡ false = search rules in
    list_done _ _ c.args.options.now.alone c.args.printing.document c.args.reading table c.args.printing.place document settings at _ _ _ _ _ _ c.run_engine-ended.result made digest
    c.run_engine-ended.ensures.run c.run_engine-ended.ensures.threadless _ _ _ _ goes_on c.in-Ok.is c.print_rows.ensures

pub returns-in-Err : goal.returns-in-Err
returns-in-Err g c = λ document settings table made digest at.
    let goes_on : has_ended c.run_engine-ended.result ≡ false = search rules in
    list_refused _ _ c.args.options.now.alone c.args.printing.document c.args.reading table c.args.printing.place document settings at _ _ _ _ _ _ c.run_engine-ended.result made digest
    c.run_engine-ended.ensures.run c.run_engine-ended.ensures.threadless c.in-Err.fault _ _ goes_on c.in-Err.is c.refused.ensures
