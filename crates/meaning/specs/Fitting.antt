-- Claimed: what contracts promise to a reader rests on these words.
-- Calls of procedures that fit their tables, and what is taken for a variable or a column that is not there.
use Rattle.std.specs.Prelude.{◌≡◌, ℕ, List, Some, map, option_map, slice_get}
use Rattle.std.specs.FinMap.{get}
use Rattle.values.specs.declared.name.RowName.{RowName}
use Rattle.catalogue.specs.Shapes.{TableShape}
use Rattle.values.specs.Rows.{type_of}
use Rattle.values.specs.Database.{Database, RowOf}
use Rattle.proclang_types.specs.Syntax.{ProcSyntax}
use Rattle.proclang_types.specs.Typing.{kinds_of, ProcFits}
use Rattle.meaning.specs.Meaning.{StandIn}
use Rattle.meaning.specs.Entries.{EntryShape, meaning_by, meaning}

-- rule: row.values
-- one value for each column of the table, of the column's type
abbrev pub IsRowOf : List TableShape → ℕ → RowOf → Type 0
IsRowOf tables table row =
    option_map (λ t. map (λ c. c.kind) t.columns) (slice_get tables table) ≡ Some (map type_of row)

-- each row of the database is one of its table
abbrev pub HasTypes : List TableShape → Database → Type 0
HasTypes tables db = (name : RowName) (row : RowOf) → get db name ≡ Some row → IsRowOf tables name.table row

-- the entry has the body of a procedure that fits its tables, and one argument for each parameter, of the parameter's
-- type
pub record IsCallOf (proc : ProcSyntax) (entry : EntryShape) : Type 0 where
  pub fits : ProcFits entry.tables proc
  pub body : entry.body ≡ proc.body
  pub arguments : map type_of entry.arguments ≡ kinds_of proc.params

-- The meaning is the same whatever is taken for a variable or a column that is not there or has another type. And the
-- database that is left has again rows of its tables.
pub record StandInNeverShows (entry : EntryShape) (db : Database) : Type 0 where
  pub same : (other : StandIn)
      → meaning_by other entry.tables entry.body entry.arguments entry.footing db ≡ meaning entry db
  pub types : HasTypes entry.tables (meaning entry db).1
