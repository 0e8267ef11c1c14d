use Rattle.std.proofs.Common.{◌≡◌, true, take}
use Rattle.values.specs.declared.name.RowName.{RowName}
use Rattle.proclang_types.specs.declared.right.Right.TheVariants.{Write}
use Rattle.footprint.specs.declared.resource.Resource.{Resource}
use Rattle.shelves.specs.Places.{has_shelf, is_away, has_place, seen_at}
use Rattle.shelves.specs.Shelving.{shelf_of}
use Rattle.row_store.specs.Locked.{locks_itself}
use Rattle.row_store.specs.Named.{AreDistinct, AreListed}
use Rattle.shelves.specs.Named.{names_listed}
use Rattle.row_store.proofs.by_name.written_rows.Given as goal

abbrev pub invariant-loop-resource : goal.invariant-loop-resource
invariant-loop-resource l =
    ((d : Resource) (q : RowName) → seen_at l.shelves d q ≡ seen_at l.fn.shelves d q)
    × ((d : Resource) (q : RowName) → has_place l.fn.shelves d q ≡ true → has_place l.shelves d q ≡ true)
    × ((d : Resource) → has_shelf l.fn.shelves d ≡ true → has_shelf l.shelves d ≡ true)
    × ((d : Resource) → is_away l.shelves d ≡ is_away l.fn.shelves d)
    × AreListed l.catalogue l.rows.items (locks_itself (take l.resource-index l.requests) Write) l.fn.shelves
    × ((q : RowName) → locks_itself (take l.resource-index l.requests) Write q ≡ true → has_place l.shelves (shelf_of l.catalogue q) q ≡ true)
    × AreDistinct (names_listed l.rows.items)
