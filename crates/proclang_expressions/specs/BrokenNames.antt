-- Claimed: what contracts promise to a reader rests on these words.
-- The rules of names of tables and of columns. No rule here depends on what reading gives.
use Rattle.std.specs.Prelude.{ℕ, List, Option, is_some, option_and_then, option_map}
use Rattle.documents.specs.FirstFault.{broken}
use Rattle.values.specs.declared.value.ColType.{ColType}
use Rattle.catalogue.specs.Places.{table_named}
use Rattle.catalogue.specs.Shapes.{TableShape}
use Rattle.proclang_expressions.specs.declared.fault.FaultKind.TheVariants.{UnknownTable, UnknownColumn}
use Rattle.proclang_expressions.specs.declared.fault.ProcFault.{ProcFault}
use Rattle.proclang_expressions.specs.declared.fault.ProcFault.TheVariants.{At}
use Rattle.proclang_expressions.specs.Lookups.{column_in}

-- a table has that name
abbrev pub not_table : List ℕ → List TableShape → List ℕ → List ProcFault
not_table path tables name = broken (is_some (table_named tables name)) (At UnknownTable path)

-- the place and the type of a column, by the names of its table and of itself
abbrev pub column_said : List TableShape → List ℕ → List ℕ → Option (ℕ × ColType)
column_said tables table column = option_and_then (λ place. column_in tables place column) (table_named tables table)

-- the type of that column
abbrev pub column_type_said : List TableShape → List ℕ → List ℕ → Option ColType
column_type_said tables table column = option_map (λ (c : ℕ × ColType). c.1) (column_said tables table column)

-- the table has a column of that name
abbrev pub not_column : List ℕ → List TableShape → List ℕ → List ℕ → List ProcFault
not_column path tables table column = broken (is_some (column_said tables table column)) (At UnknownColumn path)
