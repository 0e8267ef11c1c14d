use Rattle.std.proofs.Common.{◌≡◌, Bool, ◌&&◌, ◌||◌, ◌+◌, inl, inr, if◌then◌else◌, take, refl, sym, ap, ◌∙◌, arith}
use Rattle.std.proofs.lemmas.Grind.{common_steps}
use Rattle.footprint.specs.declared.resource.Resource.{Resource}
use Rattle.shelves.specs.Places.{PlaceOf, seen_at, has_place, as_it_stands, is_same_shelf, is_same_name, is_named}
use Rattle.shelves.specs.Shelving.{shelf_of}
use Rattle.shelves.proofs.Exact.{same_name}
use Rattle.row_store.proofs.MovingSteps.{name_step}
use Rattle.shelves.proofs.Booleans.{either}
use Rattle.row_store.proofs.moving.share_rows.Goals as goal

pub loop-name-preserved : goal.loop-name-preserved
loop-name-preserved c = (
  λ q.
      let b : Bool = is_named (take c.loop-name.name-index c.args.names.now) q in
      let sh : Resource = shelf_of c.args.catalogue.now q in
      let more : is_named (take (c.loop-name.name-index + 1) c.args.names.now) q ≡ (b || is_same_name c.name-item.result q) = grind (arith, common_steps) in
      let v : PlaceOf = as_it_stands (seen_at c.args.shelves.now sh q) in
      let o : PlaceOf = seen_at c.args.copies.now sh q in
      c.in_ok-share_one.ensures.seen sh q
      ∙ ap (λ (d : Resource). if is_same_shelf d sh && is_same_name c.name-item.result q then v else seen_at c.loop-name.copies sh q) c.shelf_of.ensures
      ∙ ap (λ (y : PlaceOf). if is_same_shelf (shelf_of c.args.catalogue.now c.name-item.result) sh && is_same_name c.name-item.result q then v else y) (c.loop-name.invariant.0 q)
      ∙ name_step c.args.catalogue.now c.name-item.result q b (λ _. v) o refl
      ∙ ap (λ (h : Bool). if h then v else o) (sym more),
  λ q h.
      let b : Bool = is_named (take c.loop-name.name-index c.args.names.now) q in
      let more : is_named (take (c.loop-name.name-index + 1) c.args.names.now) q ≡ (b || is_same_name c.name-item.result q) = grind (arith, common_steps) in
      elim (either b (is_same_name c.name-item.result q) (sym more ∙ h)) [
        | inl before ↦ c.in_ok-share_one.ensures.kept (shelf_of c.args.catalogue.now q) q (c.loop-name.invariant.1 q before)
        | inr same ↦
            ap (λ x. has_place c.share_one.new.copies (shelf_of c.args.catalogue.now x) x) (sym (same_name c.name-item.result q same))
            ∙ ap (λ (d : Resource). has_place c.share_one.new.copies d c.name-item.result) (sym c.shelf_of.ensures)
            ∙ c.in_ok-share_one.ensures.there
      ],
  λ d h. c.in_ok-share_one.ensures.shelves d (c.loop-name.invariant.2 d h),
  λ d. c.in_ok-share_one.ensures.away d ∙ c.loop-name.invariant.3 d,
)
