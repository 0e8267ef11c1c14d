-- Claimed: what contracts promise to a reader rests on these words.
-- The rows of a table.
use Rattle.std.specs.Prelude.{◌≡◌, ℕ, Bool, true, ◌==◌, List, filter}
use Rattle.std.specs.FinMap.{entries}
use Rattle.values.specs.declared.name.RowName.{RowName}
use Rattle.values.specs.Database.{Database, RowOf}

-- the view shows every name
pub record ShowsAll (shows : RowName → Bool) : Type 0 where
  pub shown : (name : RowName) → shows name ≡ true

-- the name is of that table
abbrev pub is_of_table : ℕ → RowName → Bool
is_of_table table name = name.table == table

-- the rows of a table, keys ascending
abbrev pub rows_of : ℕ → Database → List (RowName × RowOf)
rows_of table db = filter (λ e. is_of_table table e.0) (entries db)
