-- Claimed: what contracts promise to a reader rests on these words.
-- The rows of a partition.
use Rattle.std.specs.Prelude.{ℕ, ℤ, pos, ◌+ℤ◌, Bool, ◌&&◌, ◌==◌, List, [], ◌∷◌, map, unwrap_or, slice_get}
use Rattle.std.specs.FinMap.{retain_keys}
use Rattle.values.specs.declared.name.RowName.{RowName}
use Rattle.catalogue.specs.Shapes.{TableShape}
use Rattle.catalogue.specs.Places.{partition_of}
use Rattle.values.specs.Database.{Database, RowOf}
use Rattle.footprint.specs.Declaration.{number_or}

-- the name is of that partition of the table
abbrev pub is_in_part : List TableShape → ℕ → ℕ → RowName → Bool
is_in_part tables table part name = (name.table == table) && (unwrap_or (partition_of tables table name.key) 0 == part)

-- the rows at the names of a partition
abbrev pub part_rows : List TableShape → ℕ → ℕ → Database → Database
part_rows tables table part db = retain_keys db (is_in_part tables table part)

-- the keys of rows in their order
abbrev pub keys_of : List (RowName × RowOf) → List ℕ
keys_of rows = map (λ (row : RowName × RowOf). row.0.key) rows

-- rule: expression.sum
-- the exact total of a column, where another number is taken for a value that is not there or is a text
abbrev pub total : ℤ → ℕ → List (RowName × RowOf) → ℤ
total other column [] = pos 0
total other column (row ∷ rows) = number_or other (slice_get row.1 column) +ℤ total other column rows
