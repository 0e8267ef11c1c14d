-- Claimed: what contracts promise to a reader rests on these words.
-- What is wrong with the first row that is not well formed, and which fault tells it.
use Rattle.std.specs.Prelude.{◌≡◌, ℕ, ℤ, pos, negsuc, true, List, [], ◌∷◌, ◌++◌, Some, None, codes}
use Rattle.std.specs.List.{IsDistinct}
use Rattle.serde_json.specs.Data.{Data, string, array}
use Rattle.serde_json.specs.View.{items_of}
use Rattle.documents.specs.FirstFault.{first}
use Rattle.documents.specs.Json.{integer, text_number_list}
use Rattle.values.specs.declared.value.Value.{Value}
use Rattle.catalogue.specs.Places.{table_named}
use Rattle.catalogue.specs.Rules.{Says}
use Rattle.catalogue.specs.Shapes.{TableShape}
use Rattle.setup.specs.declared.fault.SetupFault.{SetupFault}
use Rattle.setup.specs.declared.fault.SetupFault.TheVariants.{Shape, RowTable, RowKey, RowValue, RowTwice}
use Rattle.setup.specs.FirstFault.{rows_faults}
use Rattle.setup.specs.Rows.{RowAt, row_values, is_given}
use Rattle.setup.specs.Says.{SaysRow, same_name}

-- ["rows", 1, [ROW ..]], where the rows before a document are well formed and no two of them have one name
pub record ComesAfter (tables : List TableShape) (rows : Data) (before : List RowAt) (d : Data) : Type 0 where
  pub version : Data
  pub ahead : List Data
  pub after : List Data
  pub is_form : rows ≡ array (items_of (string (codes "rows") ∷ version ∷ array (items_of (ahead ++ d ∷ after)) ∷ []))
  pub is_version : integer version ≡ Some (pos 1)
  pub are : Says (SaysRow tables) ahead before
  pub distinct : IsDistinct same_name before

-- ["acct", 1, [100]], whatever is in these three places
pub record SpellsRow (d : Data) (table : List ℕ) (key : ℤ) (list : List Data) : Type 0 where
  pub number : Data
  pub is_form : d ≡ array (items_of (string table ∷ number ∷ array (items_of list) ∷ []))
  pub is_key : integer number ≡ Some key

abbrev pub FaultIs : List TableShape → Data → SetupFault → Type 0
FaultIs tables rows fault = first (rows_faults tables rows) ≡ Some fault

-- What the fault is, by what is wrong with the document after well formed rows: it is no row; its table is not in the
-- catalogue; its key is negative; its values are not those of a row of that table, whether or not a row of that name
-- was given before; it is a row, and one of that name was given before
pub record RowFaultsAreTold (tables : List TableShape) (rows : Data) (before : List RowAt) (d : Data) : Type 0 where
  pub no_row : text_number_list d ≡ None → FaultIs tables rows Shape
  pub unknown_table : (table : List ℕ) (key : ℤ) (list : List Data) → SpellsRow d table key list
      → table_named tables table ≡ None → FaultIs tables rows RowTable
  pub negative_key : (table : List ℕ) (n : ℕ) (list : List Data) (place : ℕ) → SpellsRow d table (negsuc n) list
      → table_named tables table ≡ Some place
      → FaultIs tables rows RowKey
  pub wrong_values : (table : List ℕ) (key : ℕ) (list : List Data) (place : ℕ) → SpellsRow d table (pos key) list
      → table_named tables table ≡ Some place
      → row_values tables place list ≡ None → FaultIs tables rows RowValue
  pub given_before : (table : List ℕ) (key : ℕ) (list : List Data) (place : ℕ) (vs : List Value)
      → SpellsRow d table (pos key) list → table_named tables table ≡ Some place
      → row_values tables place list ≡ Some vs → is_given place key before ≡ true → FaultIs tables rows RowTwice
