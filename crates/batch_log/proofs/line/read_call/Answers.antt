use Rattle.std.proofs.Common.{◌≡◌, map, Some, sym}
use Rattle.serde_json.specs.View.{view}
use Rattle.catalogue.specs.Said.{values_said}
use Rattle.batch_log.proofs.Calls.{call_faulted, call_unread}
use Rattle.batch_log.proofs.line.read_call.Goals as goal

pub returns-in-Ok-None-clause-exact : goal.returns-in-Ok-None-clause-exact
returns-in-Ok-None-clause-exact c = λ _.
    call_faulted c.args.procs.now.procs c.args.name.now (map view c.args.documents.now) _ c.unless_unknown.ensures.known c.unless_unknown.ensures.unknown
    (sym (rw c.in-Ok-None.field-0-is at c.in-Ok-None.ensures))

pub returns-in-Err-clause-exact : goal.returns-in-Err-clause-exact
returns-in-Err-clause-exact c =
    call_unread c.args.procs.now.procs c.args.name.now (map view c.args.documents.now) _ c.unless_unknown-in-Err.ensures.known c.unless_unknown-in-Err.ensures.unknown

pub returns-in-Ok-Some-clause-exact : goal.returns-in-Ok-Some-clause-exact
returns-in-Ok-Some-clause-exact c =
    let said : values_said (map view c.args.documents.now) ≡ Some c.in-Ok-Some.values.items = sym (rw c.in-Ok-Some.field-0-is at c.in-Ok-Some.ensures) in
    c.call_of.ensures.exact (map view c.args.documents.now) said
