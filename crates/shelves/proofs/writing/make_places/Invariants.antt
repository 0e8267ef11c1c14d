use Rattle.std.proofs.Common.{◌≡◌, true, take}
use Rattle.values.specs.declared.name.RowName.{RowName}
use Rattle.footprint.specs.declared.resource.Resource.{Resource}
use Rattle.shelves.specs.Places.{seen_at, has_place, has_shelf, is_away}
use Rattle.shelves.specs.Named.{is_listed}
use Rattle.shelves.specs.Shelving.{shelf_of}
use Rattle.shelves.proofs.writing.make_places.Given as goal

abbrev pub invariant-loop-entry : goal.invariant-loop-entry
invariant-loop-entry l =
    ((d : Resource) (q : RowName) → seen_at l.shelves d q ≡ seen_at l.fn.shelves d q)
    × ((d : Resource) (q : RowName) → has_place l.fn.shelves d q ≡ true → has_place l.shelves d q ≡ true)
    × ((d : Resource) → has_shelf l.fn.shelves d ≡ true → has_shelf l.shelves d ≡ true)
    × ((d : Resource) → is_away l.shelves d ≡ is_away l.fn.shelves d)
    × ((q : RowName) → is_listed (take l.entry-index l.rows) q ≡ true → has_place l.shelves (shelf_of l.catalogue q) q ≡ true)
