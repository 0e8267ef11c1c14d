use Rattle.std.proofs.Common.{rules}
use Rattle.batch_log.proofs.PlainLines.{plain_call_made, plain_call_refused, plain_cut}
use Rattle.batch_log.proofs.line.plain_said.Goals as goal

pub returns-in_err-call_of-in-Call-clause-exact : goal.returns-in_err-call_of-in-Call-clause-exact
returns-in_err-call_of-in-Call-clause-exact c = λ text spells.
    let refused = plain_call_refused c.args.procs.now.procs text c.in-Call.name c.in-Call.values c.in_err-call_of-in-Call.field-0.0 (rw c.in-Call.is at spells) c.in_err-call_of-in-Call.ensures.exact in
    search (rules, refused)

pub returns-in_ok-call_of-in-Call-clause-exact : goal.returns-in_ok-call_of-in-Call-clause-exact
returns-in_ok-call_of-in-Call-clause-exact c = λ text spells.
    plain_call_made c.args.procs.now.procs text c.in-Call.name c.in-Call.values c.in_ok-call_of-in-Call.field-0 (rw c.in-Call.is at spells) c.in_ok-call_of-in-Call.ensures.exact

pub returns-in-Cut-clause-exact : goal.returns-in-Cut-clause-exact
returns-in-Cut-clause-exact c = λ text spells. plain_cut c.args.procs.now.procs text (rw c.in-Cut.is at spells)
