-- Claimed: what contracts promise to a reader rests on these words.
-- A catalogue as its readers see it: tables in declared order, each with its columns in order, and how its keys are
-- split over partitions.
use Rattle.std.specs.Prelude.{ℕ, ◌+◌, ◌%◌, Bool, false, ◌==◌, nat_le, count_by, List, length, map, String, string_bytes}
use Rattle.std.specs.List.{list_any}
use Rattle.std.specs.declared.alloc.Global.{Global}
use Rattle.values.specs.declared.value.ColType.{ColType}
use Rattle.catalogue.specs.declared.split.Split.{Split}
use Rattle.catalogue.specs.declared.split.Split.TheVariants as splits
use Rattle.catalogue.specs.declared.table.Table.{Table}

-- a column's name and the type of its values
pub record ColumnShape : Type 0 where
  pub name : List ℕ
  pub kind : ColType

-- how keys are split over partitions: over a number of them by the remainder, or at bounds
pub data SplitShape : Type 0 where
  by_remainder : ℕ → SplitShape
  at_bounds : List ℕ → SplitShape

-- m bounds make m + 1 partitions
abbrev pub partitions : SplitShape → ℕ
partitions (by_remainder count) = count
partitions (at_bounds bounds) = length bounds + 1

-- the partition with a key: of P partitions by the remainder, key k is in partition k mod P; at bounds, the number of
-- the partition is how many bounds are at most the key
abbrev pub part_with : SplitShape → ℕ → ℕ
part_with (by_remainder count) key = key % count
part_with (at_bounds bounds) key = count_by (λ bound. nat_le bound key) bounds

-- whether a partition ends with a key: the next number is a bound. By the remainder, and from the last bound on, none
-- ends
abbrev pub is_end_with : SplitShape → ℕ → Bool
is_end_with (by_remainder count) key = false
is_end_with (at_bounds bounds) key = list_any (λ bound. bound == key + 1) bounds

-- a table: its name, how its keys are split, and its columns in order
pub record TableShape : Type 0 where
  pub name : List ℕ
  pub split : SplitShape
  pub columns : List ColumnShape

-- a column of the code, as readers see it
abbrev pub column_shape : String Global × ColType → ColumnShape
column_shape c = record { name = string_bytes c.0; kind = c.1 }

abbrev pub columns_shape : List (String Global × ColType) → List ColumnShape
columns_shape cs = map column_shape cs

-- a split of the code, as readers see it
abbrev pub split_shape : Split → SplitShape
split_shape (splits.Remainder count) = by_remainder count
split_shape (splits.Bounds bounds) = at_bounds bounds.items

-- a table of the code, as readers see it
abbrev pub table_shape : String Global × Table → TableShape
table_shape t =
    record { name = string_bytes t.0; split = split_shape t.1.split; columns = columns_shape t.1.columns.entries }

-- the tables of a catalogue of the code, in order
abbrev pub tables_shape : List (String Global × Table) → List TableShape
tables_shape ts = map table_shape ts
