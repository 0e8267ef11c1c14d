-- Of the code: invariants and steps; no promise rests on these words.
-- A walk over the rows of a partition: the view's rows that were not written over, and the own ones, together by
-- ascending key.
use Rattle.std.specs.Prelude.{◌≡◌, ℕ, ℤ, pos, ◌+◌, ◌+ℤ◌, Bool, true, false, cond, not, ◌&&◌, ◌==◌, nat_lt, Option, None, Some, List, [], ◌∷◌, option_map, slice_get}
use Rattle.std.specs.Option.{is_some}
use Rattle.std.specs.Map.{lookup}
use Rattle.std.specs.BTreeMap.{is_at}
use Rattle.std.specs.FinMap.{entries, retain_keys, empty}
use Rattle.std.specs.declared.ops.Bound.{Bound}
use Rattle.std.specs.declared.ops.Bound.TheVariants.{Included, Excluded}
use Rattle.values.specs.declared.name.RowName.{RowName}
use Rattle.catalogue.specs.Shapes.{TableShape}
use Rattle.values.specs.Database.{Database, RowOf, name_cmp}
use Rattle.footprint.specs.Declaration.{number_or}
use Rattle.workspace.specs.declared.walk.Walk.{Walk}
use Rattle.workspace.specs.Overlay.{applied}
use Rattle.workspace.specs.Scan.{is_after, is_ahead, IsNext, IsNextRow}

-- a row with that key comes next
abbrev pub IsNextKey : List TableShape → Database → ℕ → ℕ → Option ℕ → Option ℕ → Type 0
IsNextKey tables db table part after None = IsNext tables db table part after None
IsNextKey tables db table part after (Some key) = (row : RowOf) × IsNextRow tables db table part after (key, row)

-- the rows that a walk has yet to come to
abbrev pub rows_ahead : List TableShape → ℕ → ℕ → Option ℕ → Database → List (RowName × RowOf)
rows_ahead tables table part after db = entries (retain_keys db (is_ahead tables table part after))

-- how many keys there are up to a place
abbrev pub keys_before : Option ℕ → ℕ
keys_before None = 0
keys_before (Some k) = k + 1

-- what was written at a name, if anything was
abbrev pub write_of : List (RowName × Option RowOf) → RowName → Option (Option RowOf)
write_of writes q = lookup (is_at (name_cmp q)) writes

-- the rows at names at which nothing was written
abbrev pub untouched : List (RowName × Option RowOf) → Database → Database
untouched writes db = retain_keys db (λ q. not (is_some (write_of writes q)))

-- the rows that were written
abbrev pub own_rows : List (RowName × Option RowOf) → Database
own_rows writes = applied writes empty

-- the names of a table that come after a place
abbrev pub is_past : ℕ → Option ℕ → RowName → Bool
is_past table after q = (q.table == table) && is_after after q.key

-- the first write in a table after a place, of whatever partition, and whether it leaves a row
pub record IsNextWriteAt (writes : List (RowName × Option RowOf)) (table : ℕ) (after : Option ℕ) (key : ℕ)
    (live : Bool) : Type 0 where
  pub later : is_after after key ≡ true
  pub write : option_map is_some (write_of writes (record { table = table; key = key })) ≡ Some live
  pub least : (q : RowName) → is_past table after q ≡ true → nat_lt q.key key ≡ true → write_of writes q ≡ None

abbrev pub IsNextWrite : List (RowName × Option RowOf) → ℕ → Option ℕ → Option (ℕ × Bool) → Type 0
IsNextWrite writes table after None = (q : RowName) → is_past table after q ≡ true → write_of writes q ≡ None
IsNextWrite writes table after (Some found) = IsNextWriteAt writes table after found.0 found.1

-- where the names of a table after a key begin
abbrev pub bound_of : ℕ → Option ℕ → Bound RowName
bound_of table None = Included (record { table = table; key = 0 })
bound_of table (Some k) = Excluded (record { table = table; key = k })

-- the lesser of two keys, if there is one
abbrev pub lesser : Option ℕ → Option ℕ → Option ℕ
lesser None r = r
lesser (Some a) None = Some a
lesser (Some a) (Some b) = Some (cond (nat_lt a b) a b)

-- whether the second of two keys is the lesser one
abbrev pub is_second : Option ℕ → Option ℕ → Bool
is_second a None = false
is_second None (Some b) = true
is_second (Some a) (Some b) = not (nat_lt a b)

-- the walk has come to all rows up to a key, and holds what comes next of both
pub record IsWalk (tables : List TableShape) (writes : List (RowName × Option RowOf)) (db : Database) (table part : ℕ)
    (walk : Walk) : Type 0 where
  pub theirs : IsNextKey tables (untouched writes db) table part walk.after walk.theirs
  pub own : IsNextKey tables (own_rows writes) table part walk.after walk.own

-- the last key that a walk has come to
abbrev pub come_to : Option ℕ → Option ℕ → Option ℕ
come_to before None = before
come_to before (Some key) = Some key

-- the total of a column over rows by their keys; 0 for a value that is not there or is a text
abbrev pub total_by_key : ℕ → List (ℕ × RowOf) → ℤ
total_by_key column [] = pos 0
total_by_key column (row ∷ rows) = number_or (pos 0) (slice_get row.1 column) +ℤ total_by_key column rows
