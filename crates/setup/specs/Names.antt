-- Of the code: invariants and steps; no promise rests on these words.
-- The names of the rows so far.
use Rattle.std.specs.Prelude.{◌≡◌, ◌==◌, ℕ, nat_lt, Bool, true, false, ◌&&◌, ◌||◌, List, Option, Some, None}
use Rattle.std.specs.BTreeSet.{contains}
use Rattle.values.specs.declared.name.RowName.{RowName}
use Rattle.values.specs.Database.{name_cmp}
use Rattle.setup.specs.declared.names.Names.{Names}
use Rattle.setup.specs.declared.names.Names.TheVariants.{Ascending, Any}
use Rattle.setup.specs.Rows.{RowAt, is_given}

-- whether a table and a key come after a name, or after none: tables in declared order, and keys ascending
abbrev pub is_past : Option RowName → ℕ → ℕ → Bool
is_past None table key = true
is_past (Some last) table key = nat_lt last.table table || ((last.table == table) && nat_lt last.key key)

-- no row has a name past the last one, or the set has the names of the rows and no other
abbrev pub HoldsNames : Names → List RowAt → Type 0
HoldsNames (Ascending last) rows = (table key : ℕ) → is_past last table key ≡ true → is_given table key rows ≡ false
HoldsNames (Any names) rows = (q : RowName) → contains name_cmp names q ≡ is_given q.table q.key rows
