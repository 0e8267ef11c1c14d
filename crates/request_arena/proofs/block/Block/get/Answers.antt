use Rattle.std.proofs.Common.{◌<◌, map, length, Some, slice_get, slice_index_or, sym, ap, ◌∙◌, subst, arith}
use Rattle.request_arena.specs.Packed.{unpacked}
use Rattle.request_arena.proofs.Places.{place_low, laid_get}
use Rattle.request_arena.proofs.block.Block.get.Goals as goal

pub index_of-requires : goal.index_of-requires
index_of-requires c =
    let b = c.self.inside in let low = place_low b.nodes b.queues b.written.items c.args.place (subst (λ l. c.args.place < length l) (sym c.self.view_is) c.requires) in
    let fit = c.self.invariant.fit in omega (arith, low, fit)

pub fresh-requires-clause-fits : goal.fresh-requires-clause-fits
fresh-requires-clause-fits c =
    let b = c.self.inside in let low = place_low b.nodes b.queues b.written.items c.args.place (subst (λ l. c.args.place < length l) (sym c.self.view_is) c.requires) in
    let fit = c.self.invariant.fit in omega (arith, low, fit)

pub returns-clause-is : goal.returns-clause-is
returns-clause-is c =
    let b = c.self.inside in let ws = b.written.items in let place = c.args.place in
    ap (λ l. slice_get l place) (sym c.self.view_is) ∙ laid_get b.nodes b.queues ws place (subst (λ l. place < length l) (sym c.self.view_is) c.requires)
    ∙ ap Some ((λ i. slice_index_or (map unpacked ws) (sym c.index_of.ensures i) (sym c.fresh.ensures.is i)) ∙ sym c.read.ensures.is)
