use Rattle.std.proofs.Common.{[], subst, sym, ap, ◌∙◌, arith}
use Rattle.request_arena.specs.Linked.{AreChains, IsLinked, held_in, lists_of, queue_of, spread}
use Rattle.request_arena.specs.Places.{laid}
use Rattle.request_arena.proofs.Homes.{homes_blank}
use Rattle.request_arena.proofs.Pushing.{chains_blank}
use Rattle.request_arena.proofs.Blank.{blank_linked, blank_dead, blank_held, empty_queues}
use Rattle.request_arena.proofs.queues.Queues.with_capacity.Goals as goal

pub invariant_of-result : goal.invariant_of-result
invariant_of-result c =
    let n = c.args.nodes in let k = c.args.queues in let e = c.in_ok-block.ensures.laid in (
      subst (λ ns. IsLinked ns n k 0 n) (sym e) (blank_linked n k c.in_ok-block.ensures.fits),
      subst AreChains (sym (ap (held_in n) e ∙ blank_held n k)) (chains_blank n),
      homes_blank c.in_ok-block.block n k k (ap (λ ns. spread (queue_of ns n) n k) e ∙ empty_queues (laid n k []) (blank_dead n k) n n k),
      omega arith,
    )

pub returns : goal.returns
returns c =
    let n = c.args.nodes in let k = c.args.queues in let e = c.in_ok-block.ensures.laid in
    ap (λ ns. lists_of ns n k) e
    ∙ (let lists = empty_queues (laid n k []) (blank_dead n k) n n k in λ i. record { queues = lists i; held = blank_held n k i })
