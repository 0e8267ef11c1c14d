use Rattle.std.proofs.Common.{◌≡◌, false, Bool, Option, not, ◌&&◌, ◌||◌, ◌+◌, if◌then◌else◌, ap, ◌∙◌, sym, take, arith}
use Rattle.std.proofs.lemmas.Grind.{common_steps}
use Rattle.shelves.specs.declared.shelf.Shelf.{Shelf}
use Rattle.footprint.specs.declared.resource.Resource.{Resource}
use Rattle.shelves.specs.Places.{PlaceOf, shelf_on, seen_at, has_place, has_shelf, is_away, gone, is_same_shelf, among}
use Rattle.shelves.specs.Exchange.{is_ready}
use Rattle.shelves.proofs.Steps.{ready_step, once_from, done_once, away_once, still_once}
use Rattle.shelves.proofs.exchange.take_shelves.Goals as goal

pub loop-shelf-preserved : goal.loop-shelf-preserved
loop-shelf-preserved c =
    let among_first : Resource → Bool = λ d. among (take c.loop-shelf.shelf-index c.args.at.now) d in
    let r : Resource → Bool = is_ready c.args.shelves.now c.args.held.now in
    let x : Resource → Bool = λ d. is_same_shelf c.shelf-item.result d in
    let more : (d : Resource) → among (take (c.loop-shelf.shelf-index + 1) c.args.at.now) d ≡ (among_first d || x d) = λ d. grind (arith, common_steps) in
    let now : (d : Resource) → is_ready c.loop-shelf.shelves c.loop-shelf.held d ≡ (not (among_first d) && r d) =
    λ d.
    ap (λ (s : Bool). s && (has_shelf c.loop-shelf.held d && not (is_away c.loop-shelf.shelves d))) (c.loop-shelf.invariant.3 d)
    ∙ ap (λ (h : Bool). has_shelf c.args.shelves.now d && (h && not (is_away c.loop-shelf.shelves d))) (c.loop-shelf.invariant.5 d)
    ∙ ap (λ (a : Bool). has_shelf c.args.shelves.now d && (has_shelf c.args.held.now d && not a)) (c.loop-shelf.invariant.4 d)
    ∙ ready_step (among_first d) (has_shelf c.args.shelves.now d) (has_shelf c.args.held.now d) (is_away c.args.shelves.now d) in (
      λ d.
          c.take_one_shelf.ensures.held d
          ∙ ap (λ (h : Bool). if x d && h then shelf_on c.loop-shelf.shelves d else shelf_on c.loop-shelf.held d) (now d)
          ∙ ap (λ (o : Option Shelf). if x d && (not (among_first d) && r d) then shelf_on c.loop-shelf.shelves d else o) (c.loop-shelf.invariant.0 d)
          ∙ once_from (among_first d) (x d) (r d) (shelf_on c.loop-shelf.shelves d) (shelf_on c.args.shelves.now d) (shelf_on c.args.held.now d) (c.loop-shelf.invariant.6 d)
          ∙ ap (λ (h : Bool). if h && r d then shelf_on c.args.shelves.now d else shelf_on c.args.held.now d) (sym (more d)),
      λ d q.
          c.take_one_shelf.ensures.seen d q
          ∙ ap (λ (h : Bool). if x d && h then gone (seen_at c.loop-shelf.shelves d q) else seen_at c.loop-shelf.shelves d q) (now d)
          ∙ ap (λ (o : PlaceOf). if x d && (not (among_first d) && r d) then gone o else o) (c.loop-shelf.invariant.1 d q)
          ∙ done_once (among_first d) (x d) (r d) gone (seen_at c.args.shelves.now d q)
          ∙ ap (λ (h : Bool). if h && r d then gone (seen_at c.args.shelves.now d q) else seen_at c.args.shelves.now d q) (sym (more d)),
      λ d q.
          c.take_one_shelf.ensures.places d q
          ∙ ap (λ (h : Bool). if x d && h then false else has_place c.loop-shelf.shelves d q) (now d)
          ∙ ap (λ (o : Bool). if x d && (not (among_first d) && r d) then false else o) (c.loop-shelf.invariant.2 d q)
          ∙ done_once (among_first d) (x d) (r d) (λ _. false) (has_place c.args.shelves.now d q)
          ∙ ap (λ (h : Bool). if h && r d then false else has_place c.args.shelves.now d q) (sym (more d)),
      λ d. c.take_one_shelf.ensures.shelves d ∙ c.loop-shelf.invariant.3 d,
      λ d.
          c.take_one_shelf.ensures.away d
          ∙ ap (λ (h : Bool). (x d && h) || is_away c.loop-shelf.shelves d) (now d)
          ∙ ap (λ (o : Bool). (x d && (not (among_first d) && r d)) || o) (c.loop-shelf.invariant.4 d)
          ∙ away_once (among_first d) (x d) (r d) (is_away c.args.shelves.now d)
          ∙ ap (λ (h : Bool). (h && r d) || is_away c.args.shelves.now d) (sym (more d)),
      λ d. c.take_one_shelf.ensures.held_shelves d ∙ c.loop-shelf.invariant.5 d,
      λ d h.
          still_once (among_first d) (x d) (r d) (shelf_on c.args.shelves.now d) (shelf_on c.loop-shelf.shelves d) (shelf_on c.take_one_shelf.new.shelves d)
          (λ f. c.take_one_shelf.ensures.others d (ap (λ (h : Bool). x d && h) (now d) ∙ f)) (c.loop-shelf.invariant.6 d)
          (ap (λ (h : Bool). h && r d) (sym (more d)) ∙ h),
    )
