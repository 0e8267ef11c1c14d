use Rattle.std.proofs.Common.{◌≡◌, Bool, not, ◌&&◌, ◌||◌, ◌+◌, if◌then◌else◌, take, sym, ap, ◌∙◌, arith}
use Rattle.std.proofs.lemmas.Grind.{common_steps}
use Rattle.footprint.specs.declared.resource.Resource.{Resource}
use Rattle.shelves.specs.Places.{PlaceOf, seen_at, has_shelf, is_same_shelf, among}
use Rattle.shelves.proofs.Booleans.{or_left, or_right, neither, none_first}
use Rattle.shelves.proofs.Steps.{or_more, share_once}
use Rattle.shelves.proofs.exchange.share_shelves.Goals as goal

pub loop-shelf-preserved : goal.loop-shelf-preserved
loop-shelf-preserved c =
    let b : Resource → Bool = λ d. among (take c.loop-shelf.shelf-index c.args.at.now) d in
    let x : Resource → Bool = λ d. is_same_shelf c.shelf-item.result d in
    let more : (d : Resource) → among (take (c.loop-shelf.shelf-index + 1) c.args.at.now) d ≡ (b d || x d) = λ d. grind (arith, common_steps) in (
      λ d q here.
          let h : Bool = has_shelf c.args.copies.now d in
          let p : PlaceOf = seen_at c.args.shelves.now d q in
          let o : PlaceOf = seen_at c.args.copies.now d q in
          c.in_ok-share_one_shelf.ensures.shared d q (λ one. c.loop-shelf.invariant.6 d ∙ here (more d ∙ or_right (b d) (x d) one))
          ∙ ap (λ (y : Bool). if x d && not y then seen_at c.loop-shelf.shelves d q else seen_at c.loop-shelf.copies d q) (c.loop-shelf.invariant.1 d)
          ∙ ap (λ (y : PlaceOf). if x d && not (b d || h) then y else seen_at c.loop-shelf.copies d q) (c.loop-shelf.invariant.3 d q)
          ∙ ap (λ (y : PlaceOf). if x d && not (b d || h) then p else y) (c.loop-shelf.invariant.0 d q (λ one. here (more d ∙ or_left (b d) (x d) one)))
          ∙ share_once (b d) (x d) h p o
          ∙ ap (λ (y : Bool). if y && not h then p else o) (sym (more d)),
      λ d.
          c.in_ok-share_one_shelf.ensures.copies d
          ∙ ap (λ (y : Bool). x d || y) (c.loop-shelf.invariant.1 d)
          ∙ or_more (b d) (x d) (has_shelf c.args.copies.now d)
          ∙ ap (λ (y : Bool). y || has_shelf c.args.copies.now d) (sym (more d)),
      λ d. c.in_ok-share_one_shelf.ensures.here d ∙ c.loop-shelf.invariant.2 d,
      λ d q. c.share_one_shelf.ensures.seen d q ∙ c.loop-shelf.invariant.3 d q,
      λ d q off.
          let others = neither (b d) (x d) (sym (more d) ∙ off) in
          c.share_one_shelf.ensures.kept d q others.1 ∙ c.loop-shelf.invariant.4 d q others.0,
      λ d. c.share_one_shelf.ensures.shelves d ∙ c.loop-shelf.invariant.5 d,
      λ d. c.share_one_shelf.ensures.away d ∙ c.loop-shelf.invariant.6 d,
    )

pub returns-in_err-share_one_shelf-clause-kept : goal.returns-in_err-share_one_shelf-clause-kept
returns-in_err-share_one_shelf-clause-kept c = λ d q off.
    let b : Bool = among (take c.loop-shelf.shelf-index c.args.at.now) d in
    let x : Bool = is_same_shelf c.shelf-item.result d in
    let more : among (take (c.loop-shelf.shelf-index + 1) c.args.at.now) d ≡ (b || x) = grind (arith, common_steps) in
    let others = neither b x (sym more ∙ none_first (λ (r : Resource). is_same_shelf r d) c.args.at.now (c.loop-shelf.shelf-index + 1) off) in
    c.share_one_shelf.ensures.kept d q others.1 ∙ c.loop-shelf.invariant.4 d q others.0
