-- Claimed: what contracts promise to a reader rests on these words.
-- Databases of which each row is one of a table, and what is read of their rows documents.
use Rattle.std.specs.Prelude.{◌≡◌, ◌≤◌, ◌<◌, ◌^◌, true, List, length, map, Some}
use Rattle.std.specs.FinMap.{empty, get}
use Rattle.std.specs.List.{AllByRecursion}
use Rattle.std.specs.Str.{IsUtf8}
use Rattle.serde_json.specs.Data.{Data}
use Rattle.values.specs.declared.name.RowName.{RowName}
use Rattle.values.specs.declared.value.Value.{Value}
use Rattle.values.specs.declared.value.Value.TheVariants.{Int, Text}
use Rattle.values.specs.Database.{Database, RowOf}
use Rattle.catalogue.specs.Shapes.{TableShape}
use Rattle.footprint.specs.Arithmetic.{is_int}
use Rattle.footprint.specs.OfCatalogue.{IsRowName}
use Rattle.meaning.specs.Fitting.{IsRowOf}
use Rattle.row_text.specs.Texts.{rows_in_order}
use Rattle.shelves.specs.Rows.{with_rows}
use Rattle.setup.specs.Rows.{RowAt}
use Rattle.setup.specs.Says.{IsJson, SaysRows}
use Rattle.setup.specs.Setups.{SetupShape}
use Rattle.rows_document.specs.Texts.{rows_document}

-- an Int in the signed 64-bit range, or a Text of at most 64 bytes, in UTF-8
abbrev pub IsValue : Value → Type 0
IsValue (Int number) = is_int number ≡ true
IsValue (Text text) = IsUtf8 text × (length text ≤ 64)

-- a value that code holds: an Int in the signed 64-bit range, or a Text in UTF-8
abbrev pub IsHeld : Value → Type 0
IsHeld (Int number) = is_int number ≡ true
IsHeld (Text text) = IsUtf8 text

-- a row that code holds: a key below 2^63, and values that it holds
abbrev pub IsHeldRow : RowName × RowOf → Type 0
IsHeldRow e = (e.0.key < 2 ^ 63) × AllByRecursion IsHeld e.1

-- a row of one of the tables: any key, and one value for each column, of its type
pub record IsRowIn (tables : List TableShape) (name : RowName) (row : RowOf) : Type 0 where
  pub named : IsRowName tables name
  pub types : IsRowOf tables name.table row
  pub values : AllByRecursion IsValue row

-- each row of the database is one of the tables'
abbrev pub AreRowsIn : List TableShape → Database → Type 0
AreRowsIn tables db = (name : RowName) (row : RowOf) → get db name ≡ Some row → IsRowIn tables name row

-- the rows of these tables, each with its table and its key, tables in declared order and keys ascending
abbrev pub row_list : List TableShape → Database → List RowAt
row_list tables db = map {B = RowAt} (λ (e : RowName × RowOf). (e.0.table, e.0.key, e.1)) (rows_in_order tables db)

-- the rows document of a database is JSON and says its rows in order, and these rows make the database again
pub record IsReadBack (tables : List TableShape) (db : Database) : Type 0 where
  pub document : Data
  pub is_json : IsJson (rows_document tables db) document
  pub says : SaysRows tables document (row_list tables db)
  pub same : with_rows empty (row_list tables db) ≡ db

-- a setup with other rows
abbrev pub with_row_list : SetupShape → List RowAt → SetupShape
with_row_list s rows =
    record { tables = s.tables; procs = s.procs; rows = rows; retries = s.retries; digest = s.digest }
