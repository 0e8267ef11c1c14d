-- Claimed: what contracts promise to a reader rests on these words.
-- Scans: the rows of a partition by ascending key.
use Rattle.std.specs.Prelude.{◌≡◌, ℕ, Bool, true, ◌&&◌, nat_lt, List, map, Option, None, Some}
use Rattle.std.specs.Borrow.{Bor}
use Rattle.std.specs.FinMap.{entries, get}
use Rattle.values.specs.declared.name.RowName.{RowName}
use Rattle.catalogue.specs.Shapes.{TableShape}
use Rattle.values.specs.Database.{Database, RowOf}
pub use Rattle.meaning.specs.Partitions.{is_in_part, part_rows}

-- the key comes after that one, if there is one
abbrev pub is_after : Option ℕ → ℕ → Bool
is_after None key = true
is_after (Some k) key = nat_lt k key

-- the names of a partition that a scan has yet to come to
abbrev pub is_ahead : List TableShape → ℕ → ℕ → Option ℕ → RowName → Bool
is_ahead tables table part after name = is_in_part tables table part name && is_after after name.key

-- the row with the least key ahead
pub record IsNextRow (tables : List TableShape) (db : Database) (table part : ℕ) (after : Option ℕ)
    (found : ℕ × RowOf) : Type 0 where
  pub ahead : is_ahead tables table part after (record { table = table; key = found.0 }) ≡ true
  pub row : get db (record { table = table; key = found.0 }) ≡ Some found.1
  pub least : (name : RowName) → is_ahead tables table part after name ≡ true → nat_lt name.key found.0 ≡ true
      → get db name ≡ None

-- what a scan comes to next, after a key or from the start
abbrev pub IsNext : List TableShape → Database → ℕ → ℕ → Option ℕ → Option (ℕ × RowOf) → Type 0
IsNext tables db table part after None =
    (name : RowName) → is_ahead tables table part after name ≡ true → get db name ≡ None
IsNext tables db table part after (Some found) = IsNextRow tables db table part after found

-- each name of the partition is shown
pub record ShowsPart (tables : List TableShape) (shows : RowName → Bool) (table part : ℕ) : Type 0 where
  pub shown : (name : RowName) → is_in_part tables table part name ≡ true → shows name ≡ true

-- rows by their keys
abbrev pub by_key : List (RowName × RowOf) → List (ℕ × RowOf)
by_key rows = map {B = ℕ × RowOf} (λ (row : RowName × RowOf). (row.0.key, row.1)) rows

-- the rows of a partition by their keys, keys ascending
abbrev pub rows_in_part : List TableShape → ℕ → ℕ → Database → List (ℕ × RowOf)
rows_in_part tables table part db = by_key (entries (part_rows tables table part db))

-- the rows to which references lead
abbrev pub referred : List (ℕ × Bor RowOf) → List (ℕ × RowOf)
referred rows = map {B = ℕ × RowOf} (λ (row : ℕ × Bor RowOf). (row.0, row.1.now)) rows
