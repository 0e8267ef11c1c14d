use Rattle.std.proofs.Common.{Bool, None, Option, ◌&&◌, if◌then◌else◌, sym, ap, ◌∙◌}
use Rattle.std.specs.BTreeMap.{get}
use Rattle.values.specs.declared.name.RowName.{RowName}
use Rattle.values.specs.Database.{RowOf, name_cmp}
use Rattle.footprint.specs.declared.resource.Resource.{Resource}
use Rattle.shelves.specs.Places.{PlaceOf, seen_at, full, written, is_same_shelf, is_same_name}
use Rattle.shelves.specs.Named.{listed, is_listed}
use Rattle.shelves.specs.Shelving.{shelf_of}
use Rattle.shelves.proofs.Steps.{write_step}
use Rattle.shelves.proofs.Lists.{listed_names}
use Rattle.shelves.proofs.Exact.{own_place, same_name}
use Rattle.shelves.proofs.writing.write.Goals as goal

pub fill_places-requires : goal.fill_places-requires
fill_places-requires c = λ q h.
    c.write_row.ensures.kept (shelf_of c.args.catalogue.now q) q
    (c.in_ok-make_places.ensures.there q (ap (λ es. is_listed es q) c.deref.ensures.value ∙ sym (listed_names c.in_ok-others.others.items q) ∙ h))

pub returns-clause-seen : goal.returns-clause-seen
returns-clause-seen c = λ q.
    let name : RowName = c.in-Some.name in
    let at : RowName → Resource = shelf_of c.args.catalogue.now in
    let n : Bool = is_same_name name q in
    let w : Option (Option RowOf) = get name_cmp c.args.writes q in
    let others : Option (Option RowOf) = listed c.in_ok-others.others.items q in
    let s : PlaceOf = seen_at c.make_places.new.shelves (at q) q in
    c.fill_places.ensures.seen q
    ∙ ap (written others) (c.in_ok-write_row.ensures.seen (at q) q)
    ∙ ap (λ o. written o (if is_same_shelf c.shelf_of.result (at q) && n then full c.in-Some.row else s)) (c.in_ok-others.ensures q ∙ c.in-Some.ensures.updates.0 q)
    ∙ ap (λ (d : Resource). written (if n then None else w) (if is_same_shelf d (at q) && n then full c.in-Some.row else s)) c.shelf_of.ensures
    ∙ write_step (is_same_shelf (at name) (at q)) n w c.in-Some.row s (own_place c.args.catalogue.now name q)
    (λ h. ap (get name_cmp c.args.writes) (sym (same_name name q h)) ∙ c.in-Some.ensures.value)
    ∙ ap (written w) (c.make_places.ensures.seen (at q) q)
