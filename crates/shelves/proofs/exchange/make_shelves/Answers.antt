use Rattle.std.proofs.Common.{◌≡◌, Bool, true, ◌||◌, ◌+◌, if◌then◌else◌, take, sym, ap, ◌∙◌, arith}
use Rattle.std.proofs.lemmas.Grind.{common_steps}
use Rattle.shelves.specs.Places.{has_shelf, is_same_shelf, among}
use Rattle.shelves.proofs.Steps.{or_if, or_more, if_or}
use Rattle.shelves.proofs.exchange.make_shelves.Goals as goal

pub loop-shelf-preserved : goal.loop-shelf-preserved
loop-shelf-preserved c = (
  λ d q. c.make_shelf.ensures.seen d q ∙ c.loop-shelf.invariant.0 d q,
  λ d q h. c.make_shelf.ensures.places d q (c.loop-shelf.invariant.1 d q h),
  λ d h. c.in_ok-make_shelf.ensures.made d ∙ if_or (is_same_shelf c.shelf-item.result d) (has_shelf c.loop-shelf.shelves d) (c.loop-shelf.invariant.2 d h),
  λ d.
      let b : Bool = among (take c.loop-shelf.shelf-index c.args.at.now) d in
      let x : Bool = is_same_shelf c.shelf-item.result d in
      let more : among (take (c.loop-shelf.shelf-index + 1) c.args.at.now) d ≡ (b || x) = grind (arith, common_steps) in
      c.in_ok-make_shelf.ensures.made d
      ∙ ap (λ (h : Bool). if x then true else h) (c.loop-shelf.invariant.3 d)
      ∙ or_if x (b || has_shelf c.args.shelves.now d)
      ∙ or_more b x (has_shelf c.args.shelves.now d)
      ∙ ap (λ (h : Bool). h || has_shelf c.args.shelves.now d) (sym more),
  λ d. c.make_shelf.ensures.away d ∙ c.loop-shelf.invariant.4 d,
)
