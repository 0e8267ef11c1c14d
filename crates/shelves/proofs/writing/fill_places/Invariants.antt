use Rattle.std.proofs.Common.{◌≡◌, true, is_some, length}
use Rattle.values.specs.declared.name.RowName.{RowName}
use Rattle.footprint.specs.declared.resource.Resource.{Resource}
use Rattle.shelves.specs.Places.{seen_at, has_place, has_shelf, is_away, written}
use Rattle.shelves.specs.Named.{listed}
use Rattle.shelves.specs.Shelving.{shelf_of}
use Rattle.shelves.proofs.writing.fill_places.Given as goal

abbrev pub invariant-loop-name : goal.invariant-loop-name
invariant-loop-name l =
    ((q : RowName) → is_some (listed l.left.items q) ≡ true → has_place l.shelves (shelf_of l.catalogue q) q ≡ true)
    × ((q : RowName) → written (listed l.left.items q) (seen_at l.shelves (shelf_of l.catalogue q) q) ≡ written (listed l.fn.rows.items q) (seen_at l.fn.shelves (shelf_of l.catalogue q) q))
    × ((d : Resource) (q : RowName) → has_place l.shelves d q ≡ has_place l.fn.shelves d q)
    × ((d : Resource) → has_shelf l.shelves d ≡ has_shelf l.fn.shelves d)
    × ((d : Resource) → is_away l.shelves d ≡ is_away l.fn.shelves d)

abbrev pub decreases-loop-name : goal.decreases-loop-name
decreases-loop-name l = length l.left.items
