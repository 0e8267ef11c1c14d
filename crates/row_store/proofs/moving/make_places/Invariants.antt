use Rattle.std.proofs.Common.{◌≡◌, true, take}
use Rattle.values.specs.declared.name.RowName.{RowName}
use Rattle.footprint.specs.declared.resource.Resource.{Resource}
use Rattle.shelves.specs.Places.{has_shelf, is_away, has_place, seen_at, is_named}
use Rattle.shelves.specs.Shelving.{shelf_of}
use Rattle.row_store.proofs.moving.make_places.Given as goal

abbrev pub invariant-loop-name : goal.invariant-loop-name
invariant-loop-name l =
    ((d : Resource) (q : RowName) → seen_at l.shelves d q ≡ seen_at l.fn.shelves d q)
    × ((d : Resource) (q : RowName) → has_place l.fn.shelves d q ≡ true → has_place l.shelves d q ≡ true)
    × ((d : Resource) → has_shelf l.fn.shelves d ≡ true → has_shelf l.shelves d ≡ true)
    × ((q : RowName) → is_named (take l.name-index l.names) q ≡ true → has_place l.shelves (shelf_of l.catalogue q) q ≡ true)
    × ((d : Resource) → is_away l.shelves d ≡ is_away l.fn.shelves d)
