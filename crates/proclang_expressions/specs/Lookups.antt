-- Claimed: what contracts promise to a reader rests on these words.
-- Names that are declared, and tables and columns that are named.
use Rattle.std.specs.Prelude.{ℕ, Bool, true, false, List, Option, option_map, option_and_then, slice_get, Result, ⊤}
use Rattle.documents.specs.Reading.{formed, rule}
use Rattle.values.specs.declared.value.ColType.{ColType}
use Rattle.values.specs.declared.value.ColType.TheVariants as types
use Rattle.catalogue.specs.Shapes.{TableShape}
use Rattle.values.specs.Names.{is_name}
use Rattle.catalogue.specs.Places.{table_named, column_named}
use Rattle.proclang_types.specs.Typing.{column_kind}
use Rattle.proclang_expressions.specs.declared.fault.FaultKind.TheVariants.{Shape, UnknownTable, UnknownColumn}
use Rattle.proclang_expressions.specs.declared.fault.ProcFault.{ProcFault}
use Rattle.proclang_expressions.specs.declared.fault.ProcFault.TheVariants.{At}

-- two types are one
abbrev pub same_type : ColType → ColType → Bool
same_type types.Int types.Int = true
same_type types.Text types.Text = true
same_type a b = false

-- a name that is declared obeys the rule of names
abbrev pub declared_at : List ℕ → List ℕ → Result ⊤ ProcFault
declared_at path name = rule (is_name name) (At Shape path)

-- the place of the table with that name
abbrev pub table_called : List ℕ → List TableShape → List ℕ → Result ℕ ProcFault
table_called path tables name = formed (At UnknownTable path) (table_named tables name)

-- the place and the type of a table's column with that name
abbrev pub column_in : List TableShape → ℕ → List ℕ → Option (ℕ × ColType)
column_in tables table name =
    option_and_then (λ place. option_map (λ kind. (place, kind)) (column_kind tables table place))
    (option_and_then (λ t. column_named t.columns name) (slice_get tables table))

-- the column of that name, or the fault that there is none
abbrev pub column_called : List ℕ → List TableShape → ℕ → List ℕ → Result (ℕ × ColType) ProcFault
column_called path tables table name = formed (At UnknownColumn path) (column_in tables table name)
