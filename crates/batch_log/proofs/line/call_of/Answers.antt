use Rattle.std.proofs.Common.{◌≡◌, ap, is_some, None, Option, rules}
use Rattle.proclang_types.specs.Procedures.{ProcParts}
use Rattle.requests.specs.ProcLists.{proc_named}
use Rattle.requests.specs.declared.request.RequestFault.TheVariants.{Args}
use Rattle.batch_log.proofs.Calls.{call_made, call_refused, call_unknown}
use Rattle.batch_log.proofs.line.call_of.Goals as goal

pub returns-in-Err-UnknownProc-clause-exact : goal.returns-in-Err-UnknownProc-clause-exact
returns-in-Err-UnknownProc-clause-exact c = λ ds said other.
    let none : proc_named c.args.procs.now.procs c.args.name.now ≡ None = c.new.ensures.unknown.0 (search rules) in
    call_unknown c.args.procs.now.procs c.args.name.now ds (ap (λ (found : Option ProcParts). is_some found) none)

pub returns-in-Ok-clause-exact : goal.returns-in-Ok-clause-exact
returns-in-Ok-clause-exact c = λ ds said.
    call_made c.args.procs.now.procs c.args.name.now ds c.args.values.items c.in-Ok.request c.new.result Args said c.in-Ok.ensures.ok.0 c.in-Ok.ensures.ok.1 c.in-Ok.is c.new.ensures.args.1

pub returns-in-Err-Args-clause-exact : goal.returns-in-Err-Args-clause-exact
returns-in-Err-Args-clause-exact c = λ ds said other. call_refused _ _ _ _ said (c.new.ensures.args.0 (search rules))
