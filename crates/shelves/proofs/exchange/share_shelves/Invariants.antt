use Rattle.std.proofs.Common.{◌≡◌, false, ◌||◌, take}
use Rattle.values.specs.declared.name.RowName.{RowName}
use Rattle.footprint.specs.declared.resource.Resource.{Resource}
use Rattle.shelves.specs.Places.{seen_at, has_place, has_shelf, is_away, among}
use Rattle.shelves.specs.Exchange.{AreShelvesShared}
use Rattle.shelves.proofs.exchange.share_shelves.Given as goal

abbrev pub invariant-loop-shelf : goal.invariant-loop-shelf
invariant-loop-shelf l =
    AreShelvesShared (take l.shelf-index l.at) l.fn.shelves l.fn.copies l.copies
    × ((d : Resource) → has_shelf l.copies d ≡ (among (take l.shelf-index l.at) d || has_shelf l.fn.copies d))
    × ((d : Resource) → is_away l.copies d ≡ is_away l.fn.copies d)
    × ((d : Resource) (q : RowName) → seen_at l.shelves d q ≡ seen_at l.fn.shelves d q)
    × ((d : Resource) (q : RowName) → among (take l.shelf-index l.at) d ≡ false → has_place l.shelves d q ≡ has_place l.fn.shelves d q)
    × ((d : Resource) → has_shelf l.shelves d ≡ has_shelf l.fn.shelves d)
    × ((d : Resource) → is_away l.shelves d ≡ is_away l.fn.shelves d)
