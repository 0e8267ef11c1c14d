use Rattle.std.proofs.Common.{◌≡◌, Bool, true, ◌||◌, ◌+◌, take, sym, ap, ◌∙◌, arith}
use Rattle.std.proofs.lemmas.Grind.{common_steps}
use Rattle.values.specs.declared.name.RowName.{RowName}
use Rattle.footprint.specs.declared.resource.Resource.{Resource}
use Rattle.shelves.specs.Places.{has_place, is_same_name}
use Rattle.shelves.specs.Named.{is_listed}
use Rattle.shelves.specs.Shelving.{shelf_of}
use Rattle.shelves.proofs.Exact.{same_name}
use Rattle.shelves.proofs.Lists.{either}
use Rattle.shelves.proofs.writing.make_places.Goals as goal

pub loop-entry-preserved : goal.loop-entry-preserved
loop-entry-preserved c = (
  λ d q. c.make_place.ensures.seen d q ∙ c.loop-entry.invariant.0 d q,
  λ d q h. c.make_place.ensures.kept d q (c.loop-entry.invariant.1 d q h),
  λ d h. c.make_place.ensures.shelves d (c.loop-entry.invariant.2 d h),
  λ d. c.make_place.ensures.away d ∙ c.loop-entry.invariant.3 d,
  λ q h.
      let name : RowName = c.entry-item.result.name in
      let at : RowName → Resource = shelf_of c.args.catalogue.now in
      let b : Bool = is_listed (take c.loop-entry.entry-index c.args.rows.now) q in
      let x : Bool = is_same_name name q in
      let more : is_listed (take (c.loop-entry.entry-index + 1) c.args.rows.now) q ≡ (b || x) = grind (arith, common_steps) in
      let there : has_place c.make_place.new.shelves (at name) name ≡ true =
      ap (λ (d : Resource). has_place c.make_place.new.shelves d name) (sym c.shelf_of.ensures) ∙ c.in_ok-make_place.ensures.there in
      either b x (has_place c.make_place.new.shelves (at q) q)
      (λ e. c.make_place.ensures.kept (at q) q (c.loop-entry.invariant.4 q e))
      (λ e. ap (λ n. has_place c.make_place.new.shelves (at n) n) (sym (same_name name q e)) ∙ there)
      (sym more ∙ h),
)
