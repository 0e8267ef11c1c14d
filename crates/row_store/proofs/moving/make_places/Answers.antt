use Rattle.std.proofs.Common.{◌≡◌, Bool, ◌||◌, ◌+◌, take, sym, ap, ◌∙◌, arith, inl, inr}
use Rattle.std.proofs.lemmas.Grind.{common_steps}
use Rattle.footprint.specs.declared.resource.Resource.{Resource}
use Rattle.shelves.specs.Places.{has_place, is_same_name, is_named}
use Rattle.shelves.specs.Shelving.{shelf_of}
use Rattle.shelves.proofs.Booleans.{either}
use Rattle.shelves.proofs.Exact.{same_name}
use Rattle.row_store.proofs.moving.make_places.Goals as goal

pub loop-name-preserved : goal.loop-name-preserved
loop-name-preserved c = (
  λ d q. c.make_place.ensures.seen d q ∙ c.loop-name.invariant.0 d q,
  λ d q h. c.make_place.ensures.kept d q (c.loop-name.invariant.1 d q h),
  λ d h. c.make_place.ensures.shelves d (c.loop-name.invariant.2 d h),
  λ q h.
      let b : Bool = is_named (take c.loop-name.name-index c.args.names.now) q in
      let more : is_named (take (c.loop-name.name-index + 1) c.args.names.now) q ≡ (b || is_same_name c.name-item.result q) = grind (arith, common_steps) in
      elim (either b (is_same_name c.name-item.result q) (sym more ∙ h)) [
        | inl before ↦ c.make_place.ensures.kept (shelf_of c.args.catalogue.now q) q (c.loop-name.invariant.3 q before)
        | inr same ↦
            ap (λ x. has_place c.make_place.new.shelves (shelf_of c.args.catalogue.now x) x) (sym (same_name c.name-item.result q same))
            ∙ ap (λ (d : Resource). has_place c.make_place.new.shelves d c.name-item.result) (sym c.shelf_of.ensures)
            ∙ c.in_ok-make_place.ensures.there
      ],
  λ d. c.make_place.ensures.away d ∙ c.loop-name.invariant.4 d,
)
