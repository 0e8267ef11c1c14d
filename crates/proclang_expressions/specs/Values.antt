-- Claimed: what contracts promise to a reader rests on these words.
-- Lists of expressions, and the values that they give.
use Rattle.std.specs.Prelude.{ℕ, List, [], unwrap_or, Result, Ok, if◌then◌else◌}
use Rattle.std.specs.List.{zip}
use Rattle.serde_json.specs.Data.{Data}
use Rattle.documents.specs.Reading.{◌>>=◌}
use Rattle.values.specs.declared.value.ColType.{ColType}
use Rattle.catalogue.specs.Shapes.{TableShape}
use Rattle.proclang_types.specs.Syntax.{ExprSyntax, ValueSyntax}
use Rattle.proclang_types.specs.Typing.{kind_of, column_kinds}
use Rattle.proclang_expressions.specs.declared.fault.FaultKind.TheVariants.{TypeMismatch}
use Rattle.proclang_expressions.specs.declared.fault.ProcFault.{ProcFault}
use Rattle.proclang_expressions.specs.Faults.{refuse}
use Rattle.proclang_expressions.specs.Seen.{Seen}
use Rattle.proclang_expressions.specs.Walk.{each_from, appended}
use Rattle.proclang_expressions.specs.Lookups.{same_type}
use Rattle.proclang_expressions.specs.Expressions.{as_value, statement_expr}

-- a value of the type that is asked for
abbrev pub of_type : List ℕ → ColType → ValueSyntax → Result ValueSyntax ProcFault
of_type path kind value = if same_type (kind_of value) kind then Ok value else refuse TypeMismatch path

-- expressions, the first at the place that is given
abbrev pub exprs_at : List TableShape → List ℕ → ℕ → List Seen → List Data → Result (List ExprSyntax) ProcFault
exprs_at tables path place scope ds =
    each_from (λ p before d. appended before (statement_expr tables p scope d)) path place [] ds

-- a value of a column's type
abbrev pub stored_at : List ℕ → ColType → ExprSyntax → Result ValueSyntax ProcFault
stored_at path kind e = as_value path e >>= of_type path kind

-- a value for each column, of the column's type
abbrev pub row_values_at : List ℕ → List ColType → List ExprSyntax → Result (List ValueSyntax) ProcFault
row_values_at path kinds es = each_from (λ p before c. appended before (stored_at p c.0 c.1)) path 0 [] (zip kinds es)

-- the types of a table's columns
abbrev pub kinds_in : List TableShape → ℕ → List ColType
kinds_in tables table = unwrap_or (column_kinds tables table) []

-- the values that expressions at the places from 1 on give
abbrev pub values_at : List ℕ → List ExprSyntax → Result (List ValueSyntax) ProcFault
values_at path es = each_from (λ p before e. appended before (as_value p e)) path 1 [] es
