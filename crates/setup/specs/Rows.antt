-- Claimed: what contracts promise to a reader rests on these words.
-- The starting rows that a document says, with the first fault from left to right.
use Rattle.std.specs.Prelude.{ℕ, ◌==◌, Bool, ◌&&◌, not, List, [], map, codes, Option, Some, None, option_and_then, slice_get, Result, Ok, if◌then◌else◌}
use Rattle.std.specs.List.{list_any}
use Rattle.serde_json.specs.Data.{Data}
use Rattle.documents.specs.Json.{text_number_list, versioned_list}
use Rattle.documents.specs.Reading.{◌>>=◌, formed, rule, each_at}
use Rattle.values.specs.declared.value.Value.{Value}
use Rattle.catalogue.specs.Shapes.{TableShape}
use Rattle.values.specs.Keys.{key_of}
use Rattle.catalogue.specs.Places.{table_named}
use Rattle.values.specs.Rows.{kinds_match}
use Rattle.catalogue.specs.Said.{values_said}
use Rattle.setup.specs.declared.fault.SetupFault.{SetupFault}
use Rattle.setup.specs.declared.fault.SetupFault.TheVariants.{Shape, RowTable, RowKey, RowValue, RowTwice}

-- a table, a key and a row
abbrev pub RowAt : Type 0
RowAt = ℕ × ℕ × List Value

-- values that a table takes: one a column, of its type
abbrev pub taken_by : List TableShape → ℕ → List Value → Option (List Value)
taken_by tables table vs =
    option_and_then (λ t. if kinds_match (map (λ c. c.kind) t.columns) vs then Some vs else None)
    (slice_get tables table)

-- the values that documents say, where the table takes them
abbrev pub row_values : List TableShape → ℕ → List Data → Option (List Value)
row_values tables table ds = option_and_then (taken_by tables table) (values_said ds)

-- rule: row.name
-- whether one of the rows has that table and key
abbrev pub is_given : ℕ → ℕ → List RowAt → Bool
is_given table key rows = list_any (λ (r : RowAt). (r.0 == table) && (r.1 == key)) rows

-- a row, after those before it
unfoldable pub row_at : List TableShape → List RowAt → Data → Result RowAt SetupFault
row_at tables before d = do
  form ← formed Shape (text_number_list d)
  table ← formed RowTable (table_named tables form.0)
  key ← formed RowKey (key_of form.1)
  vs ← formed RowValue (row_values tables table form.2)
  _ ← rule (not (is_given table key before)) RowTwice
  Ok (table, key, vs)

-- the rows that a document says, or its first fault
unfoldable pub rows_at : List TableShape → Data → Result (List RowAt) SetupFault
rows_at tables d = do
  ds ← formed Shape (versioned_list (codes "rows") d)
  each_at (row_at tables) [] ds
