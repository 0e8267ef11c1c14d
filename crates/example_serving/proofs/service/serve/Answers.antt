use Rattle.std.proofs.Common.{ℕ, ◌<◌, arith, rules, subst, length, vec_len}
use Rattle.example_serving.specs.declared.owner.Owner.{Owner}
use Rattle.example_serving.specs.Clients.{AreAtTheirLogs}
use Rattle.example_serving.specs.Steps.{HasServed}
use Rattle.example_serving.proofs.Owned.{no_service, whole_service}
use Rattle.example_serving.proofs.Submitted.{of_intake}
use Rattle.example_serving.proofs.service.serve.Goals as goal

pub returns-in_default : goal.returns-in_default
returns-in_default g c = no_service c.args.engine.core c.args.logs.items c.new-told.result.items c.new-told.ensures.items c.requires.idle

pub returns-in_default-clients_of : goal.returns-in_default-clients_of
returns-in_default-clients_of g c = no_service c.args.engine.core c.args.logs.items c.new-told.result.items c.new-told.ensures.items c.requires.idle

pub serve_left-requires-clause-clients : goal.serve_left-requires-clause-clients
serve_left-requires-clause-clients g c =
    λ κs le. of_intake c.in-Ok.intake (vec_len c.args.logs) 1 c.in-Ok-clients_of.clients.items c.serve_beside-clients.result.0.items c.args.logs.items c.in-Ok-clients_of.ensures c.serve_beside-clients.ensures.clients

pub returns : goal.returns
returns g c =
    let first : Owner = record { engine = c.args.engine; pass = c.in-Ok.pass; told = c.new-told.result } in
    let beside = c.serve_beside-clients in
    let served : HasServed first beside.result.1.0 beside.result.1.1 = search rules in
    let some : 0 < length c.args.logs.items = omega (arith, c.requires.clients.0, c.args.logs.ok.0) in
    let at : AreAtTheirLogs c.in-Ok.intake (length c.args.logs.items) 1 c.in-Ok-clients_of.clients.items c.args.logs.items =
    subst (λ (n : ℕ). AreAtTheirLogs c.in-Ok.intake n 1 c.in-Ok-clients_of.clients.items c.args.logs.items) c.args.logs.ok.0 c.in-Ok-clients_of.ensures in
    whole_service first beside.result.1.0 c.in-Ok.intake c.in-Ok-clients_of.clients.items beside.result.0.items c.args.logs.items c.serve_left.result.0.core c.serve_left.result.1.items beside.result.1.1 c.serve_left.result.2
    c.in-Ok.ensures.drawer.1 c.new-told.ensures.items served some at beside.ensures.clients c.serve_left.ensures
