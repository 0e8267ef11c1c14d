-- Claimed: what contracts promise to a reader rests on these words.
-- Tables and columns by their names, and the partition of a table that a key falls in.
use Rattle.std.specs.Prelude.{ℕ, ℤ, pos, negsuc, Bool, nat_lt, List, Option, Some, None, option_map, option_and_then, if◌then◌else◌, slice_get, position}
use Rattle.std.specs.Str.{bytes_eq}
use Rattle.catalogue.specs.Shapes.{ColumnShape, TableShape, partitions, part_with, is_end_with}

-- rule: split.remainder, split.bounds
-- a key falls in the partition in which its table's split has it: by the remainder in partition k mod P, and at bounds
-- in the one whose number is how many bounds are at most the key
abbrev pub partition_of : List TableShape → ℕ → ℕ → Option ℕ
partition_of tables table key = option_map (λ t. part_with t.split key) (slice_get tables table)

-- whether a partition of a table ends with a key: the next number is a bound
abbrev pub is_end_of : List TableShape → ℕ → ℕ → Option Bool
is_end_of tables table key = option_map (λ t. is_end_with t.split key) (slice_get tables table)

-- the partitions of a table of P partitions have the numbers 0 to P - 1
abbrev pub partition_numbered : List TableShape → ℕ → ℤ → Option ℕ
partition_numbered tables table (pos n) =
    option_and_then (λ t. if nat_lt n (partitions t.split) then Some n else None) (slice_get tables table)
partition_numbered tables table (negsuc n) = None

-- the place of the table with a name
abbrev pub table_named : List TableShape → List ℕ → Option ℕ
table_named tables name = position (λ t. bytes_eq name t.name) tables

-- the place of the column with a name
abbrev pub column_named : List ColumnShape → List ℕ → Option ℕ
column_named columns name = position (λ c. bytes_eq name c.name) columns
