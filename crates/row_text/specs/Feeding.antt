-- Of the code: invariants and steps; no promise rests on these words.
-- Text on its way to a hasher.
use Rattle.std.specs.Prelude.{◌≡◌, ℕ, List, [], ◌∷◌, ◌++◌, codes}
use Rattle.std.specs.Borrow.{Bor}
use Rattle.std.specs.Fmt.{decimal}
use Rattle.sha2.specs.Hashers.{Holds256}
use Rattle.catalogue.specs.Shapes.{TableShape}
use Rattle.values.specs.Database.{RowOf}
use Rattle.row_text.specs.declared.feed.Feed.{Feed}
use Rattle.row_text.specs.Texts.{line_end, row_line, values_text}

-- the hasher holds the text, less the end that it was not given yet
abbrev pub IsFed : Feed → List ℕ → Type 0
IsFed feed all = (given : List ℕ) × Holds256 feed.hasher given × (given ++ feed.text.items ≡ all)

-- the lines of rows of a table
abbrev pub table_lines : List TableShape → ℕ → List (ℕ × Bor RowOf) → List ℕ
table_lines tables table [] = []
table_lines tables table (row ∷ rows) =
    row_line tables (record { table = table; key = row.0 }) row.1.now ++ table_lines tables table rows

-- what is in a row line after the table's name
abbrev pub row_words : ℕ → RowOf → List ℕ
row_words key row = ((codes " " ++ decimal key) ++ values_text row) ++ line_end
