use Rattle.std.proofs.Common.{◌≡◌, true, if◌then◌else◌, take}
use Rattle.values.specs.declared.name.RowName.{RowName}
use Rattle.footprint.specs.declared.resource.Resource.{Resource}
use Rattle.shelves.specs.Places.{has_shelf, is_away, has_place, seen_at, as_it_stands, is_named}
use Rattle.shelves.specs.Shelving.{shelf_of}
use Rattle.row_store.proofs.moving.share_rows.Given as goal

abbrev pub invariant-loop-name : goal.invariant-loop-name
invariant-loop-name l =
    ((q : RowName) → seen_at l.copies (shelf_of l.catalogue q) q ≡ (if is_named (take l.name-index l.names) q then as_it_stands (seen_at l.shelves (shelf_of l.catalogue q) q) else seen_at l.fn.copies (shelf_of l.catalogue q) q))
    × ((q : RowName) → is_named (take l.name-index l.names) q ≡ true → has_place l.copies (shelf_of l.catalogue q) q ≡ true)
    × ((d : Resource) → has_shelf l.fn.copies d ≡ true → has_shelf l.copies d ≡ true)
    × ((d : Resource) → is_away l.copies d ≡ is_away l.fn.copies d)
