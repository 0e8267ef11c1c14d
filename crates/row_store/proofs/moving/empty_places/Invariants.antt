use Rattle.std.proofs.Common.{◌≡◌, ◌&&◌, if◌then◌else◌, take}
use Rattle.values.specs.declared.name.RowName.{RowName}
use Rattle.footprint.specs.declared.resource.Resource.{Resource}
use Rattle.shelves.specs.Places.{has_shelf, is_away, has_place, seen_at, emptied, is_named}
use Rattle.shelves.specs.Shelving.{shelf_of}
use Rattle.row_store.proofs.moving.empty_places.Given as goal

abbrev pub invariant-loop-name : goal.invariant-loop-name
invariant-loop-name l =
    ((q : RowName) → seen_at l.shelves (shelf_of l.catalogue q) q ≡ (if is_named (take l.name-index l.names) q && has_place l.fn.shelves (shelf_of l.catalogue q) q then emptied (seen_at l.fn.shelves (shelf_of l.catalogue q) q) else seen_at l.fn.shelves (shelf_of l.catalogue q) q))
    × ((d : Resource) (q : RowName) → has_place l.shelves d q ≡ has_place l.fn.shelves d q)
    × ((d : Resource) → has_shelf l.shelves d ≡ has_shelf l.fn.shelves d)
    × ((d : Resource) → is_away l.shelves d ≡ is_away l.fn.shelves d)
