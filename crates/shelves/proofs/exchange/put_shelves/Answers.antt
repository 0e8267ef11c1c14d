use Rattle.std.proofs.Common.{◌≡◌, false, None, Bool, Option, ◌&&◌, ◌||◌, ◌+◌, if◌then◌else◌, ap, ◌∙◌, sym, is_some, take, refl, arith}
use Rattle.std.proofs.lemmas.Grind.{common_steps}
use Rattle.shelves.specs.declared.shelf.Shelf.{Shelf}
use Rattle.shelves.specs.Places.{shelf_on, has_shelf, is_same_shelf, among}
use Rattle.shelves.proofs.Steps.{some_if_not, put_there, shelf_step, step_over}
use Rattle.shelves.proofs.exchange.put_shelves.Goals as goal

pub loop-shelf-preserved : goal.loop-shelf-preserved
loop-shelf-preserved c = (
  λ d.
      let b : Bool = among (take c.loop-shelf.shelf-index c.args.at.now) d in
      let x : Bool = is_same_shelf c.shelf-item.result d in
      let s : Bool = has_shelf c.args.shelves.now d in
      let f : Bool = has_shelf c.args.from.now d in
      let p : Option Shelf = shelf_on c.args.from.now d in
      let o : Option Shelf = shelf_on c.args.shelves.now d in
      let more : among (take (c.loop-shelf.shelf-index + 1) c.args.at.now) d ≡ (b || x) = grind (arith, common_steps) in
      c.put_one_shelf.ensures.shelves d
      ∙ ap (λ (h : Bool). if x && (h && is_some (shelf_on c.loop-shelf.from d)) then shelf_on c.loop-shelf.from d else shelf_on c.loop-shelf.shelves d) (c.loop-shelf.invariant.1 d)
      ∙ ap (λ (h : Option Shelf). if x && (s && is_some h) then h else shelf_on c.loop-shelf.shelves d) (c.loop-shelf.invariant.2 d)
      ∙ ap (λ (h : Bool). if x && (s && h) then (if b then None else p) else shelf_on c.loop-shelf.shelves d) (some_if_not b p)
      ∙ ap (λ (h : Option Shelf). if x && (s && (if b then false else f)) then (if b then None else p) else h) (c.loop-shelf.invariant.0 d)
      ∙ shelf_step b x s f None p o
      ∙ ap (λ (h : Bool). if h && (s && f) then p else o) (sym more),
  λ d.
      ap is_some (c.put_one_shelf.ensures.shelves d)
      ∙ put_there (is_same_shelf c.shelf-item.result d) (shelf_on c.loop-shelf.shelves d) (shelf_on c.loop-shelf.from d)
      ∙ c.loop-shelf.invariant.1 d,
  λ d.
      let b : Bool = among (take c.loop-shelf.shelf-index c.args.at.now) d in
      let p : Option Shelf = shelf_on c.args.from.now d in
      let none : Option Shelf = None in
      let more : among (take (c.loop-shelf.shelf-index + 1) c.args.at.now) d ≡ (b || is_same_shelf c.shelf-item.result d) = grind (arith, common_steps) in
      c.put_one_shelf.ensures.left d
      ∙ ap (λ (y : Option Shelf). if is_same_shelf c.shelf-item.result d then none else y) (c.loop-shelf.invariant.2 d)
      ∙ step_over b (is_same_shelf c.shelf-item.result d) (λ _. none) p refl
      ∙ ap (λ (h : Bool). if h then none else p) (sym more),
)
