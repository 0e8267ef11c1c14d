-- Claimed: what contracts promise to a reader rests on these words.
-- Rows as they are listed, and the table whose rows these are.
use Rattle.std.specs.Prelude.{◌≡◌, ℕ, List, Bool, true, false, Option, Some, None}
use Rattle.catalogue.specs.Places.{table_named}
use Rattle.catalogue.specs.Shapes.{TableShape}
use Rattle.values.specs.Database.{Database}
use Rattle.row_text.specs.Merge.{rows_of}
use Rattle.row_text.specs.Texts.{row_lines, row_text}
use Rattle.rows_document.specs.Texts.{rows_document, table_document}

-- the rows of all tables as row lines, or as a rows document
abbrev pub text_of_all : Bool → List TableShape → Database → List ℕ
text_of_all false tables db = row_text tables db
text_of_all true tables db = rows_document tables db

-- the rows of one table
abbrev pub text_of_table : Bool → List TableShape → ℕ → Database → List ℕ
text_of_table false tables table db = row_lines tables (rows_of table db)
text_of_table true tables table db = table_document tables table db

-- those of all tables, or of the table in a place
abbrev pub text_at : Bool → Option ℕ → List TableShape → Database → List ℕ
text_at document None tables db = text_of_all document tables db
text_at document (Some place) tables db = text_of_table document tables place db

-- the place is that of the table that is asked for by its name; there is none where no table is asked for
abbrev pub IsPlaceOf : List TableShape → Option (List ℕ) → Option ℕ → Type 0
IsPlaceOf tables table None = table ≡ None
IsPlaceOf tables table (Some place) = (name : List ℕ) × (table ≡ Some name) × (table_named tables name ≡ Some place)

-- the table that is asked for by its name isn't there
abbrev pub IsNotThere : List TableShape → Option (List ℕ) → Type 0
IsNotThere tables None = ⊥
IsNotThere tables (Some name) = table_named tables name ≡ None
