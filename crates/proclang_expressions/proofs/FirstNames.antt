-- The faults of names of tables and of columns, and of types, are the first rules that are broken.
use Rattle.std.proofs.Common.{◌≡◌, ℕ, Bool, true, false, List, Option, Some, None, option_map, option_and_then, is_some, Ok, refl, sym, ap, ◌∙◌, subst}
use Rattle.documents.specs.FirstFault.{broken, IsFirst}
use Rattle.documents.specs.Reading.{formed, rule}
use Rattle.documents.proofs.Steps.{formed_ok}
use Rattle.values.specs.declared.value.ColType.{ColType}
use Rattle.catalogue.specs.Places.{table_named}
use Rattle.catalogue.specs.Shapes.{TableShape}
use Rattle.proclang_expressions.specs.declared.fault.FaultKind.TheVariants.{UnknownTable, UnknownColumn}
use Rattle.proclang_expressions.specs.declared.fault.ProcFault.{ProcFault}
use Rattle.proclang_expressions.specs.declared.fault.ProcFault.TheVariants.{At}
use Rattle.proclang_expressions.specs.Lookups.{table_called, column_in, column_called}
use Rattle.proclang_expressions.specs.BrokenNames.{column_said, column_type_said, not_column}

pub found_first : {X : Type 0} (fault : ProcFault) (o : Option X) → IsFirst (formed fault o) (broken (is_some o) fault)
found_first fault None = refl
found_first fault (Some x) = refl

pub only_rule_first : (b : Bool) (fault : ProcFault) → IsFirst (rule b fault) (broken b fault)
only_rule_first true fault = refl
only_rule_first false fault = refl

pub table_so : (path : List ℕ) (tables : List TableShape) (name : List ℕ) (place : ℕ) → table_called path tables name ≡ Ok place → table_named tables name ≡ Some place
table_so path tables name place e = formed_ok (At UnknownTable path) (table_named tables name) place e

-- a column of the table that was read
column_is : (tables : List TableShape) (table column : List ℕ) (place : ℕ) → table_named tables table ≡ Some place → column_said tables table column ≡ column_in tables place column
column_is tables table column place e = ap (option_and_then (λ (p : ℕ). column_in tables p column)) e

pub column_first : (path : List ℕ) (tables : List TableShape) (table column : List ℕ) (place : ℕ) → table_named tables table ≡ Some place → IsFirst (column_called path tables place column) (not_column path tables table column)
column_first path tables table column place e =
    subst (λ (o : Option (ℕ × ColType)). IsFirst (column_called path tables place column) (broken (is_some o) (At UnknownColumn path))) (sym (column_is tables table column place e))
    (found_first (At UnknownColumn path) (column_in tables place column))

-- the type of the column that was read
pub column_type_so : (path : List ℕ) (tables : List TableShape) (table column : List ℕ) (place : ℕ) (c : ℕ × ColType) → table_named tables table ≡ Some place → column_called path tables place column ≡ Ok c → column_type_said tables table column ≡ Some c.1
column_type_so path tables table column place c t e =
    ap (option_map (λ (d : ℕ × ColType). d.1)) (column_is tables table column place t ∙ formed_ok (At UnknownColumn path) (column_in tables place column) c e)
