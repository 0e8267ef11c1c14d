use Rattle.std.proofs.Common.{◌≡◌, true, is_some, length}
use Rattle.std.specs.Option.{option_or}
use Rattle.values.specs.declared.name.RowName.{RowName}
use Rattle.shelves.specs.Named.{listed, is_listed, names_listed}
use Rattle.row_store.proofs.named.set_rows.Given as goal

abbrev pub invariant-loop-name : goal.invariant-loop-name
invariant-loop-name l =
    (names_listed l.rows.items ≡ names_listed l.fn.rows.items)
    × ((q : RowName) → is_some (listed l.left.items q) ≡ true → is_listed l.fn.rows.items q ≡ true)
    × ((q : RowName) → option_or (listed l.left.items q) (listed l.rows.items q) ≡ option_or (listed l.fn.made.items q) (listed l.fn.rows.items q))

abbrev pub decreases-loop-name : goal.decreases-loop-name
decreases-loop-name l = length l.left.items
