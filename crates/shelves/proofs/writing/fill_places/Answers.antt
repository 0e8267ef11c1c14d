use Rattle.std.proofs.Common.{◌≡◌, true, Some, None, Option, ◌&&◌, if◌then◌else◌, List, is_some, sym, ap, ◌∙◌}
use Rattle.std.specs.Option.{option_or}
use Rattle.values.specs.declared.name.RowName.{RowName}
use Rattle.values.specs.Database.{RowOf}
use Rattle.footprint.specs.declared.resource.Resource.{Resource}
use Rattle.shelves.specs.declared.named.NamedRow.{NamedRow}
use Rattle.shelves.specs.Places.{PlaceOf, has_place, seen_at, full, shared_row, written, is_same_shelf, is_same_name}
use Rattle.shelves.specs.Named.{listed}
use Rattle.shelves.specs.Shelving.{shelf_of}
use Rattle.shelves.proofs.Exact.{own_place, is_name_itself}
use Rattle.shelves.proofs.Lists.{listed_push, some_or, or_some, fill_step}
use Rattle.shelves.proofs.writing.fill_places.Goals as goal

pub loop-name-preserved : goal.loop-name-preserved
loop-name-preserved c =
    let x : NamedRow = c.in-Some.field-0 in
    let r : Option RowOf = shared_row x.row in
    let es : List NamedRow = c.pop.new.self.items in
    let at : RowName → Resource = shelf_of c.args.catalogue.now in
    let last : RowName → Option (Option RowOf) = λ q. if is_same_name x.name q then Some r else None in
    let was : (q : RowName) → listed c.loop-name.left.items q ≡ option_or (listed es q) (last q) = λ q. ap (λ ys. listed ys q) c.in-Some.ensures.items ∙ listed_push es x q in
    let named : is_some (listed c.loop-name.left.items x.name) ≡ true =
    ap is_some (was x.name) ∙ or_some (listed es x.name) (last x.name) (ap (λ b. is_some (if b then Some r else None)) (is_name_itself x.name)) in
    let there : has_place c.loop-name.shelves c.shelf_of.result x.name ≡ true =
    ap (λ (d : Resource). has_place c.loop-name.shelves d x.name) c.shelf_of.ensures ∙ c.loop-name.invariant.0 x.name named in (
      λ q h. c.fill_place.ensures.kept (at q) q ∙ c.loop-name.invariant.0 q (ap is_some (was q) ∙ some_or (listed es q) (last q) h),
      λ q.
          let s : PlaceOf = seen_at c.loop-name.shelves (at q) q in
          ap (written (listed es q)) (c.fill_place.ensures.seen (at q) q there)
          ∙ ap (λ (d : Resource). written (listed es q) (if is_same_shelf d (at q) && is_same_name x.name q then full r else s)) c.shelf_of.ensures
          ∙ fill_step (is_same_shelf (at x.name) (at q)) (is_same_name x.name q) (listed es q) r s (own_place c.args.catalogue.now x.name q)
          ∙ ap (λ o. written o s) (sym (was q))
          ∙ c.loop-name.invariant.1 q,
      λ d q. c.fill_place.ensures.kept d q ∙ c.loop-name.invariant.2 d q,
      λ d. c.fill_place.ensures.shelves d ∙ c.loop-name.invariant.3 d,
      λ d. c.fill_place.ensures.away d ∙ c.loop-name.invariant.4 d,
    )
