use Rattle.std.proofs.Common.{◌≡◌, false, ◌&&◌, ◌||◌, if◌then◌else◌, take}
use Rattle.values.specs.declared.name.RowName.{RowName}
use Rattle.footprint.specs.declared.resource.Resource.{Resource}
use Rattle.shelves.specs.Places.{shelf_on, seen_at, has_place, has_shelf, is_away, gone, among}
use Rattle.shelves.specs.Exchange.{is_ready}
use Rattle.shelves.proofs.exchange.take_shelves.Given as goal

abbrev pub invariant-loop-shelf : goal.invariant-loop-shelf
invariant-loop-shelf l =
    ((d : Resource) → shelf_on l.held d ≡ (if among (take l.shelf-index l.at) d && is_ready l.fn.shelves l.fn.held d then shelf_on l.fn.shelves d else shelf_on l.fn.held d))
    × ((d : Resource) (q : RowName) → seen_at l.shelves d q ≡ (if among (take l.shelf-index l.at) d && is_ready l.fn.shelves l.fn.held d then gone (seen_at l.fn.shelves d q) else seen_at l.fn.shelves d q))
    × ((d : Resource) (q : RowName) → has_place l.shelves d q ≡ (if among (take l.shelf-index l.at) d && is_ready l.fn.shelves l.fn.held d then false else has_place l.fn.shelves d q))
    × ((d : Resource) → has_shelf l.shelves d ≡ has_shelf l.fn.shelves d)
    × ((d : Resource) → is_away l.shelves d ≡ ((among (take l.shelf-index l.at) d && is_ready l.fn.shelves l.fn.held d) || is_away l.fn.shelves d))
    × ((d : Resource) → has_shelf l.held d ≡ has_shelf l.fn.held d)
    × ((d : Resource) → (among (take l.shelf-index l.at) d && is_ready l.fn.shelves l.fn.held d) ≡ false → shelf_on l.shelves d ≡ shelf_on l.fn.shelves d)
