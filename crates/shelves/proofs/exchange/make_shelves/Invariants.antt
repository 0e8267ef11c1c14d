use Rattle.std.proofs.Common.{◌≡◌, true, ◌||◌, take}
use Rattle.values.specs.declared.name.RowName.{RowName}
use Rattle.footprint.specs.declared.resource.Resource.{Resource}
use Rattle.shelves.specs.Places.{seen_at, has_place, has_shelf, is_away, among}
use Rattle.shelves.proofs.exchange.make_shelves.Given as goal

abbrev pub invariant-loop-shelf : goal.invariant-loop-shelf
invariant-loop-shelf l =
    ((d : Resource) (q : RowName) → seen_at l.shelves d q ≡ seen_at l.fn.shelves d q)
    × ((d : Resource) (q : RowName) → has_place l.fn.shelves d q ≡ true → has_place l.shelves d q ≡ true)
    × ((d : Resource) → has_shelf l.fn.shelves d ≡ true → has_shelf l.shelves d ≡ true)
    × ((d : Resource) → has_shelf l.shelves d ≡ (among (take l.shelf-index l.at) d || has_shelf l.fn.shelves d))
    × ((d : Resource) → is_away l.shelves d ≡ is_away l.fn.shelves d)
