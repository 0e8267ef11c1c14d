use Rattle.std.proofs.Common.{◌≡◌, ◌&&◌, if◌then◌else◌, ap, sym, ◌∙◌, Option, Some, List}
use Rattle.std.specs.BTreeMap.{get, is_at}
use Rattle.std.specs.Map.{lookup}
use Rattle.values.specs.Database.{RowOf, name_cmp}
use Rattle.values.specs.declared.name.RowName.{RowName}
use Rattle.shelves.specs.declared.place.Place.{Place}
use Rattle.shelves.specs.declared.contents.Contents.{Contents}
use Rattle.shelves.specs.Places.{places_of, has_own, seen_among, seen_over, emptied, counted_away, is_same_name}
use Rattle.shelves.proofs.Exact.{own_same}
use Rattle.shelves.proofs.Placed.{set_place, one_emptied}
use Rattle.shelves.proofs.shelf.Shelf.empty_place.Goals as goal

pub returns-in-Some-clause-seen : goal.returns-in-Some-clause-seen
returns-in-Some-clause-seen c = λ q.
    let otherwise : Option RowOf = counted_away c.args.self.now.away q in
    let found : get name_cmp c.in-Own.places c.args.name.now ≡ Some c.in-Some.place.now = sym c.in-Some.ensures.value in
    ap (λ (es : List (RowName × Place)). seen_over (lookup (is_at (name_cmp q)) es) otherwise) (c.get_mut.follows.holds c.empty.new.self).0
    ∙ ap (λ (o : Option Place). seen_over o otherwise) (set_place c.args.name.now q c.in-Own.places.entries c.in-Some.place.now c.empty.new.self found)
    ∙ one_emptied (is_same_name c.args.name.now q) c.in-Some.place.now c.empty.new.self (get name_cmp c.in-Own.places q) otherwise (c.empty.ensures otherwise)
    (λ h. sym (own_same c.in-Own.places c.args.name.now q h) ∙ found)
    ∙ ap (λ (x : Contents). if is_same_name c.args.name.now q && has_own x q then emptied (seen_among (places_of x) q otherwise) else seen_among (places_of x) q otherwise) (sym c.in-Own.is)
