use Rattle.std.proofs.Common.{◌≡◌, ◌∷◌, ap, subst, sym, ◌∙◌}
use Rattle.std.specs.BTreeMap.Range.{entries_between}
use Rattle.std.specs.declared.ops.Bound.{Bound}
use Rattle.values.specs.declared.name.RowName.{RowName}
use Rattle.std.specs.declared.ops.Bound.TheVariants.{Unbounded}
use Rattle.values.specs.Database.{name_cmp}
use Rattle.shelves.specs.Places.{Places, places_of}
use Rattle.shelves.proofs.Scans.{IsLeft, left_start, left_on, left_found}
use Rattle.shelves.proofs.scan.next_on.Goals as goal

pub loop-name-init : goal.loop-name-init
loop-name-init c = subst
    (λ (m : Places). IsLeft c.args.catalogue.now c.args.table c.args.part c.args.after.now m.entries c.into_iter-name-iterator.result) c.places.ensures
    (left_start c.args.catalogue.now c.args.table c.args.part c.args.after.now c.places.result.now.entries c.into_iter-name-iterator.result c.range-name-items.ensures.ordered
    (c.into_iter-name-iterator.ensures.into_iter_gives ∙ c.range-name-items.ensures.between tt
    ∙ ap (λ (from : Bound RowName). entries_between name_cmp from Unbounded c.places.result.now.entries) c.scan_start.ensures))

pub returns-in-Some-row_ahead : goal.returns-in-Some-row_ahead
returns-in-Some-row_ahead c = λ db shown.
    let is : c.loop-name.name-iterator ≡ (c.in-Some.name.now, c.in-Some.place.now) ∷ c.next.new.self = c.in-Some.ensures.steps in
    left_found c.args.catalogue.now c.args.table c.args.part c.args.after.now (places_of c.args.shelf.now.contents).entries (c.in-Some.name.now, c.in-Some.place.now) c.next.new.self c.in-Some-row_ahead.row.now db shown
    (subst (IsLeft c.args.catalogue.now c.args.table c.args.part c.args.after.now (places_of c.args.shelf.now.contents).entries) is c.loop-name.invariant) (sym c.in-Some-row_ahead.ensures)

pub loop-name-preserved : goal.loop-name-preserved
loop-name-preserved c =
    let is : c.loop-name.name-iterator ≡ (c.in-Some.name.now, c.in-Some.place.now) ∷ c.next.new.self = c.in-Some.ensures.steps in
    left_on c.args.catalogue.now c.args.table c.args.part c.args.after.now (places_of c.args.shelf.now.contents).entries (c.in-Some.name.now, c.in-Some.place.now) c.next.new.self
    (subst (IsLeft c.args.catalogue.now c.args.table c.args.part c.args.after.now (places_of c.args.shelf.now.contents).entries) is c.loop-name.invariant) (sym c.in_default.ensures)
