-- Claimed: what contracts promise to a reader rests on these words.
-- The database: a finite map from row names to rows. A name is a table and a key, whether or not a row is there.
use Rattle.std.specs.Prelude.{List}
use Rattle.std.specs.declared.cmp.Ordering.{Ordering}
use Rattle.std.specs.FinMap.{FinMap}
use Rattle.values.specs.declared.name.RowName.{RowName}
use Rattle.values.specs.declared.value.Value.{Value}
use Rattle.values.specs.contracts.name.RowNameOrd.TheImpl as order

-- by table in declared order, and then by key
abbrev pub name_cmp : RowName → RowName → Ordering
name_cmp = order.ghosts.cmp

-- one value a column, in order
abbrev pub RowOf : Type 0
RowOf = List Value

-- a finite map from row names to rows, in the order of tables and then of keys
abbrev pub Database : Type 0
Database = FinMap name_cmp RowOf
