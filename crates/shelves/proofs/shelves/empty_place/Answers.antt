use Rattle.std.proofs.Common.{◌≡◌, sym, ap, ◌∙◌, Option, Some, List}
use Rattle.std.specs.BTreeMap.{is_at}
use Rattle.std.specs.Map.{lookup}
use Rattle.footprint.specs.declared.resource.Resource.{Resource}
use Rattle.footprint.specs.Tree.{resource_cmp}
use Rattle.shelves.specs.declared.shelf.Shelf.{Shelf}
use Rattle.shelves.specs.Places.{shelf_on, seen_on, is_same_shelf, is_same_name}
use Rattle.shelves.proofs.Exact.{get_same}
use Rattle.shelves.proofs.Placed.{set_shelf, one_shelf_emptied}
use Rattle.shelves.proofs.shelves.empty_place.Goals as goal

pub returns-in-Some-clause-seen : goal.returns-in-Some-clause-seen
returns-in-Some-clause-seen c = λ d q.
    let found : shelf_on c.args.shelves.now c.args.at.now ≡ Some c.in-Some.shelf.now = sym c.in-Some.ensures.value in
    ap (λ (es : List (Resource × Shelf)). seen_on (lookup (is_at (resource_cmp d)) es) q) (c.get_mut.follows.holds c.empty_place.new.self).0
    ∙ ap (λ (o : Option Shelf). seen_on o q) (set_shelf c.args.at.now d c.args.shelves.now.entries c.in-Some.shelf.now c.empty_place.new.self found)
    ∙ one_shelf_emptied (is_same_shelf c.args.at.now d) (is_same_name c.args.name.now q) c.in-Some.shelf.now c.empty_place.new.self (shelf_on c.args.shelves.now d) q (c.empty_place.ensures.seen q)
    (λ h. sym (get_same c.args.shelves.now c.args.at.now d h) ∙ found)
