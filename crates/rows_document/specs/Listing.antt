-- Of the code: invariants and steps; no promise rests on these words.
-- A rows document on its way: its rows so far.
use Rattle.std.specs.Prelude.{◌≡◌, ℕ, Bool, true, false, List, [], ◌∷◌, ◌++◌, codes, map}
use Rattle.std.specs.Borrow.{Bor}
use Rattle.std.specs.Fmt.{decimal}
use Rattle.std.specs.List.{join_by}
use Rattle.values.specs.declared.name.RowName.{RowName}
use Rattle.values.specs.Database.{RowOf}
use Rattle.catalogue.specs.Shapes.{TableShape}
use Rattle.row_text.specs.Texts.{line_end, table_name}
use Rattle.rows_document.specs.declared.listing.Listing.{Listing}
use Rattle.rows_document.specs.Texts.{json_text, row_on_line, value_document}

-- what is before a row's key
abbrev pub table_head : List TableShape → ℕ → List ℕ
table_head tables table = codes "[" ++ json_text (table_name tables table) ++ codes ","

-- a row at the start of a line, from what is before its key
abbrev pub headed_row : List ℕ → ℕ → RowOf → List ℕ
headed_row head key row =
    line_end ++ head ++ decimal key ++ codes ",[" ++ join_by value_document (codes ",") row ++ codes "]]"

-- rows of a table by their names
abbrev pub named : ℕ → List (ℕ × Bor RowOf) → List (RowName × RowOf)
named table rows = map (λ (row : ℕ × Bor RowOf). (record { table = table; key = row.0 }, row.1.now)) rows

-- what is before the rows
abbrev pub opening : List ℕ
opening = codes "[" ++ json_text (codes "rows") ++ codes ",1,["

-- whether there are any rows
abbrev pub are_any : List (RowName × RowOf) → Bool
are_any [] = false
are_any (e ∷ es) = true

-- the text has these rows, and it is known whether there are any
pub record Lists (tables : List TableShape) (rows : List (RowName × RowOf)) (listing : Listing) : Type 0 where
  pub text : listing.text.items ≡ opening ++ join_by (row_on_line tables) (codes ",") rows
  pub any : listing.any ≡ are_any rows
