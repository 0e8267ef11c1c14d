use Rattle.std.proofs.Common.{◌<◌, ◌+◌, length, slice_set, sym, ap, ◌∙◌, subst, arith}
use Rattle.request_arena.specs.Rows.{RowOf}
use Rattle.request_arena.specs.Places.{index_of, at_place, laid}
use Rattle.request_arena.proofs.Places.{place_low, index_low, laid_set, tabulated_same}
use Rattle.request_arena.proofs.block.Block.set.Goals as goal

pub reach-index-requires-clause-small : goal.reach-index-requires-clause-small
reach-index-requires-clause-small c =
    let b = c.self.inside in let low = place_low b.nodes b.queues b.written.items c.args.place (subst (λ l. c.args.place < length l) (sym c.self.view_is) c.requires.there) in
    let fit = c.self.invariant.fit in omega (arith, low, fit)

pub reach-index-requires-clause-room : goal.reach-index-requires-clause-room
reach-index-requires-clause-room c =
    let b = c.self.inside in
    index_low b.nodes b.queues b.written.items c.args.place (subst (λ l. c.args.place < length l) (sym c.self.view_is) c.requires.there) b.written.room c.self.invariant.of_nodes c.self.invariant.of_queues

pub returns : goal.returns
returns c =
    let b = c.self.inside in let ws = c.reach-index.new.written.items in let place = c.args.place in let p = c.of.result in
    let low = place_low b.nodes b.queues b.written.items place (subst (λ l. place < length l) (sym c.self.view_is) c.requires.there) in
    let room : index_of b.nodes place < length ws = omega (arith, c.reach-index.ensures.far, c.reach-index.ensures.is) in
    ap (λ (w : RowOf). laid b.nodes b.queues w.items) c.set.ensures ∙ ap (λ i. laid b.nodes b.queues (slice_set ws i p)) c.reach-index.ensures.is
    ∙ laid_set b.nodes b.queues ws place p low room ∙ ap (slice_set (laid b.nodes b.queues ws) place) c.of.ensures
    ∙ ap (λ l. slice_set l place c.args.node) (tabulated_same (at_place b.nodes ws) (at_place b.nodes b.written.items) c.reach-index.ensures.same 0 (b.nodes + b.queues) ∙ c.self.view_is)
