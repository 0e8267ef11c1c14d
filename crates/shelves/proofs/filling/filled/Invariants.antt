use Rattle.std.proofs.Common.{◌≡◌, false}
use Rattle.std.specs.FinMap.{empty}
use Rattle.std.specs.Vec.Iter.{into_iter_items}
use Rattle.values.specs.declared.name.RowName.{RowName}
use Rattle.footprint.specs.declared.resource.Resource.{Resource}
use Rattle.shelves.specs.Places.{is_away}
use Rattle.shelves.specs.Rows.{with_rows, rows_of, found}
use Rattle.shelves.proofs.filling.filled.Given as goal

-- with the rows that are left they are the shelves with all rows
abbrev pub invariant-loop-table : goal.invariant-loop-table
invariant-loop-table l =
    (with_rows (rows_of l.catalogue l.shelves) (into_iter_items l.table-iterator) ≡ with_rows empty l.fn.rows.items)
    × ((q : RowName) → (found l.catalogue l.shelves q).row ≡ (found l.catalogue l.shelves q).counts_as)
    × ((d : Resource) → is_away l.shelves d ≡ false)
