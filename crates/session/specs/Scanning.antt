-- Of the code: invariants and steps; no promise rests on these words.
-- Going over the partitions of a table.
use Rattle.std.specs.Prelude.{◌≡◌, ◌<◌, ◌-◌, ◌^◌, ◌==◌, ℕ, Bool, true, nat_lt, if◌then◌else◌, is_some, unwrap_or, List, Option, None, Some}
use Rattle.std.specs.FinMap.{get}
use Rattle.catalogue.specs.Places.{partition_of}
use Rattle.catalogue.specs.Shapes.{TableShape}
use Rattle.values.specs.Database.{Database}
use Rattle.workspace.specs.Scan.{is_after}

-- a number, or that of the greatest key where it is greater
abbrev pub key_up_to : ℕ → ℕ
key_up_to number = if nat_lt number (2 ^ 63) then number else 2 ^ 63 - 1

-- of two keys the lesser
abbrev pub lesser_of : Option ℕ → Option ℕ → Option ℕ
lesser_of None other = other
lesser_of (Some one) None = Some one
lesser_of (Some one) (Some other) = if nat_lt other one then Some other else Some one

-- the partition of a table that a key falls in
abbrev pub part_of : List TableShape → ℕ → ℕ → ℕ
part_of tables table key = unwrap_or (partition_of tables table key) 0

-- the keys of one partition
abbrev pub in_part : List TableShape → ℕ → ℕ → ℕ → Bool
in_part tables table part key = part_of tables table key == part

-- the keys of the partitions before one
abbrev pub before_part : List TableShape → ℕ → ℕ → ℕ → Bool
before_part tables table part key = nat_lt (part_of tables table key) part

-- all keys
abbrev pub any_key : ℕ → Bool
any_key key = true

-- among some keys of a table, the least one after another, or the least of all, that a row has
pub record IsLeastKeyAmong (among : ℕ → Bool) (db : Database) (table : ℕ) (after : Option ℕ) (found : ℕ) : Type 0 where
  pub later : is_after after found ≡ true
  pub there : is_some (get db (record { table = table; key = found })) ≡ true
  pub least : (key : ℕ) → among key ≡ true → is_after after key ≡ true → key < found
      → get db (record { table = table; key = key }) ≡ None

-- what comes next among some keys of a table: that key, if there is any
abbrev pub IsNextKeyAmong : (ℕ → Bool) → Database → ℕ → Option ℕ → Option ℕ → Type 0
IsNextKeyAmong among db table after None =
    (key : ℕ) → among key ≡ true → is_after after key ≡ true → get db (record { table = table; key = key }) ≡ None
IsNextKeyAmong among db table after (Some found) = IsLeastKeyAmong among db table after found
