use Rattle.std.proofs.Common.{rules, ◌≡◌, length, subst, slice_index_or}
use Rattle.example_serving.specs.declared.client.Client.{Client}
use Rattle.example_serving.specs.Clients.{HasSubmitted}
use Rattle.example_serving.proofs.Submitted.{have_submitted}
use Rattle.example_serving.proofs.clients.run_clients.Goals as goal

pub returns : goal.returns
returns g c =
    let same : length c.args.clients.now ≡ length c.for_each_mut.new.s = search rules in
    have_submitted c.args.clients.now c.for_each_mut.new.s same (λ i d less.
    let k = (c.for_each_mut.ensures i d less).1 in
    subst (λ (y : Client). HasSubmitted (slice_index_or c.args.clients.now i d) y) k.left
    (subst (λ (x : Client). HasSubmitted x k.after_call.now) k.argument_is k.call))
