use Rattle.std.proofs.Common.{◌≡◌, ◌∙◌, Ok, Err, sym, ap, rules}
use Rattle.requests.specs.declared.request.RequestFault.TheVariants.{NoMemory, Args}
use Rattle.requests.specs.ProcLists.{proc_named}
use Rattle.example_serving.specs.Calls.{request_with}
use Rattle.example_serving.proofs.Made.{made_is}
use Rattle.example_serving.proofs.taking_in.request_of.Goals as goal

pub returns-in-Ok-clause-made : goal.returns-in-Ok-clause-made
returns-in-Ok-clause-made c =
    let right = λ (e : c.new.result ≡ Err NoMemory). let t : Ok c.in-Ok.request ≡ Err NoMemory = sym c.in-Ok.is ∙ e in absurd (cc) in
    sym c.in-Ok.is ∙ made_is _ c.args.call.args.items c.new.result c.new.ensures.ok c.new.ensures.unknown c.new.ensures.args right
    ∙ ap (λ name. request_with (proc_named c.args.procs.now.procs name) c.args.call.args.items) c.as_str.ensures.value

pub returns-in-Err-Args-clause-made : goal.returns-in-Err-Args-clause-made
returns-in-Err-Args-clause-made c =
    let is : c.new.result ≡ Err Args = search rules in
    let right = λ (e : c.new.result ≡ Err NoMemory). let t : Err Args ≡ Err NoMemory = sym is ∙ e in absurd (cc) in
    sym is ∙ made_is _ c.args.call.args.items c.new.result c.new.ensures.ok c.new.ensures.unknown c.new.ensures.args right
    ∙ ap (λ name. request_with (proc_named c.args.procs.now.procs name) c.args.call.args.items) c.as_str.ensures.value
