use Rattle.std.proofs.Common.{◌≡◌, true, false}
use Rattle.std.specs.Vec.Iter.{into_iter_items}
use Rattle.values.specs.declared.name.RowName.{RowName}
use Rattle.footprint.specs.declared.resource.Resource.{Resource}
use Rattle.shelves.specs.Places.{has_shelf, is_away, has_place, written}
use Rattle.shelves.specs.Shelving.{shelf_of}
use Rattle.row_store.specs.Named.{AreDistinct}
use Rattle.shelves.specs.Named.{listed, is_listed, names_listed}
use Rattle.shelves.specs.Rows.{found}
use Rattle.row_store.proofs.by_name.put_listed.Given as goal

-- with the rows that are left the store is as with all rows
abbrev pub invariant-loop-name : goal.invariant-loop-name
invariant-loop-name l =
    ((q : RowName) → is_listed (into_iter_items l.name-iterator) q ≡ true → has_place l.shelves (shelf_of l.catalogue q) q ≡ true)
    × AreDistinct (names_listed (into_iter_items l.name-iterator))
    × ((q : RowName) → written (listed (into_iter_items l.name-iterator) q) (found l.catalogue l.shelves q) ≡ written (listed l.fn.rows.items q) (found l.catalogue l.fn.shelves q))
    × ((q : RowName) → is_listed l.fn.rows.items q ≡ false → (is_listed (into_iter_items l.name-iterator) q ≡ false) × (has_place l.shelves (shelf_of l.catalogue q) q ≡ has_place l.fn.shelves (shelf_of l.catalogue q) q))
    × ((d : Resource) → has_shelf l.shelves d ≡ has_shelf l.fn.shelves d)
    × ((d : Resource) → is_away l.shelves d ≡ is_away l.fn.shelves d)
