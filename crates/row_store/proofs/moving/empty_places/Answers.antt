use Rattle.std.proofs.Common.{◌≡◌, Bool, ◌&&◌, ◌||◌, ◌+◌, if◌then◌else◌, take, refl, sym, ap, ◌∙◌, arith}
use Rattle.std.proofs.lemmas.Grind.{common_steps}
use Rattle.footprint.specs.declared.resource.Resource.{Resource}
use Rattle.shelves.specs.Places.{PlaceOf, seen_at, has_place, emptied, is_same_shelf, is_same_name, is_named}
use Rattle.shelves.specs.Shelving.{shelf_of}
use Rattle.row_store.proofs.MovingSteps.{name_step, emptied_twice, and_then, and_all}
use Rattle.row_store.proofs.moving.empty_places.Goals as goal

pub loop-name-preserved : goal.loop-name-preserved
loop-name-preserved c = (
  λ q.
      let b : Bool = is_named (take c.loop-name.name-index c.args.names.now) q in
      let n : Bool = is_same_name c.name-item.result q in
      let sh : Resource = shelf_of c.args.catalogue.now q in
      let s : Bool = is_same_shelf (shelf_of c.args.catalogue.now c.name-item.result) sh in
      let more : is_named (take (c.loop-name.name-index + 1) c.args.names.now) q ≡ (b || n) = grind (arith, common_steps) in
      let x : PlaceOf = seen_at c.args.shelves.now sh q in
      let h : Bool = has_place c.args.shelves.now sh q in
      let out : PlaceOf → PlaceOf = λ y. if h then emptied y else y in
      let now : PlaceOf = seen_at c.loop-name.shelves sh q in
      c.empty_place.ensures.seen sh q
      ∙ ap (λ (d : Resource). if is_same_shelf d sh && (n && has_place c.loop-name.shelves sh q) then emptied now else now) c.shelf_of.ensures
      ∙ ap (λ (y : Bool). if s && (n && y) then emptied now else now) (c.loop-name.invariant.1 sh q)
      ∙ and_all s n h (emptied now) now
      ∙ ap (λ (y : PlaceOf). if s && n then out y else y) (c.loop-name.invariant.0 q ∙ sym (and_then b h (emptied x) x))
      ∙ name_step c.args.catalogue.now c.name-item.result q b out x (emptied_twice h emptied x refl)
      ∙ ap (λ (y : Bool). if y then out x else x) (sym more)
      ∙ and_then (is_named (take (c.loop-name.name-index + 1) c.args.names.now) q) h (emptied x) x,
  λ d q. c.empty_place.ensures.kept d q ∙ c.loop-name.invariant.1 d q,
  λ d. c.empty_place.ensures.shelves d ∙ c.loop-name.invariant.2 d,
  λ d. c.empty_place.ensures.away d ∙ c.loop-name.invariant.3 d,
)
