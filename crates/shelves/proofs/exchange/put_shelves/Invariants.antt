use Rattle.std.proofs.Common.{◌≡◌, None, ◌&&◌, if◌then◌else◌, take}
use Rattle.footprint.specs.declared.resource.Resource.{Resource}
use Rattle.shelves.specs.Places.{shelf_on, has_shelf, among}
use Rattle.shelves.proofs.exchange.put_shelves.Given as goal

abbrev pub invariant-loop-shelf : goal.invariant-loop-shelf
invariant-loop-shelf l =
    ((d : Resource) → shelf_on l.shelves d ≡ (if among (take l.shelf-index l.at) d && (has_shelf l.fn.shelves d && has_shelf l.fn.from d) then shelf_on l.fn.from d else shelf_on l.fn.shelves d))
    × ((d : Resource) → has_shelf l.shelves d ≡ has_shelf l.fn.shelves d)
    × ((d : Resource) → shelf_on l.from d ≡ (if among (take l.shelf-index l.at) d then None else shelf_on l.fn.from d))
