use Rattle.std.proofs.Common.{◌≡◌, ◌≤◌, ◌-◌, ◌^◌, ◌||◌}
use Rattle.values.specs.declared.name.RowName.{RowName}
use Rattle.footprint.specs.declared.resource.Resource.TheVariants.{Table}
use Rattle.footprint.specs.declared.resource.InTable.TheVariants.{WholeTable}
use Rattle.shelves.specs.Places.{is_same_shelf, among}
use Rattle.shelves.specs.Shelving.{shelf_of}
use Rattle.row_store.specs.Locked.{is_part_below}
use Rattle.row_store.proofs.locked.add_shelves_of_table.Given as goal

abbrev pub invariant-loop-part : goal.invariant-loop-part
invariant-loop-part l =
    (l.number ≤ 2 ^ 32)
    × ((q : RowName) → among l.shelves.items (shelf_of l.catalogue q)
    ≡ (among l.fn.shelves.items (shelf_of l.catalogue q) || (is_same_shelf (Table l.table WholeTable) (shelf_of l.catalogue q) || is_part_below l.table l.number (shelf_of l.catalogue q))))

abbrev pub decreases-loop-part : goal.decreases-loop-part
decreases-loop-part l = 2 ^ 33 - l.number
