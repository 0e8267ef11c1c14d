use Rattle.std.proofs.Common.{◌≡◌, ◌||◌, true}
use Rattle.values.specs.declared.name.RowName.{RowName}
use Rattle.footprint.specs.declared.resource.Resource.TheVariants.{Db}
use Rattle.shelves.specs.Places.{is_same_shelf, among}
use Rattle.shelves.specs.Shelving.{shelf_of}
use Rattle.row_store.specs.Locked.{is_table_below}
use Rattle.row_store.proofs.locked.add_all_shelves.Given as goal

abbrev pub invariant-loop-table : goal.invariant-loop-table
invariant-loop-table l =
    (q : RowName) → (is_same_shelf Db (shelf_of l.catalogue q) || is_table_below l.table (shelf_of l.catalogue q)) ≡ true
    → among l.shelves.items (shelf_of l.catalogue q) ≡ true
