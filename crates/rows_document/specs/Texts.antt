-- Claimed: what contracts promise to a reader rests on these words.
-- The rows of a database as a rows document, in ASCII.
use Rattle.std.specs.Prelude.{ℕ, ◌==◌, ◌||◌, List, [], ◌∷◌, ◌++◌, codes, if◌then◌else◌}
use Rattle.std.specs.Char.Escape.{encode_utf16, hex_digit_at}
use Rattle.std.specs.Fmt.{decimal, signed_decimal}
use Rattle.std.specs.Int.{is_in_range}
use Rattle.std.specs.List.{flat_map, join_by}
use Rattle.std.specs.Str.{chars}
use Rattle.values.specs.declared.name.RowName.{RowName}
use Rattle.values.specs.declared.value.Value.{Value}
use Rattle.values.specs.declared.value.Value.TheVariants.{Int, Text}
use Rattle.values.specs.Database.{Database, RowOf}
use Rattle.catalogue.specs.Shapes.{TableShape}
use Rattle.row_text.specs.Merge.{rows_of}
use Rattle.row_text.specs.Texts.{line_end, rows_in_order, table_name}

-- a 16-bit unit as `\u` and four lower-case hexadecimal digits
abbrev pub unit_text : ℕ → List ℕ
unit_text unit =
    92 ∷ 117 ∷ hex_digit_at 0x1000 unit ∷ hex_digit_at 0x100 unit ∷ hex_digit_at 0x10 unit ∷ hex_digit_at 1 unit ∷ []

-- a character of a JSON text: `"` and `\` after a backslash, any other from space to `~` as itself, and any other as
-- its one or two units in UTF-16
unfoldable pub character_text : ℕ → List ℕ
character_text c =
    if (c == 34) || (c == 92) then 92 ∷ c ∷ []
    else if is_in_range 32 126 c then c ∷ []
    else flat_map unit_text (encode_utf16 c)

-- a JSON text: each of its characters, between quotes
abbrev pub json_text : List ℕ → List ℕ
json_text text = 34 ∷ (flat_map character_text (chars text) ++ 34 ∷ [])

-- an Int in decimal, a Text as a JSON text
unfoldable pub value_document : Value → List ℕ
value_document (Int number) = signed_decimal number
value_document (Text text) = json_text text

-- a row: ["acct",1,[100]]
unfoldable pub row_document : List TableShape → RowName → RowOf → List ℕ
row_document tables name row =
    codes "[" ++ json_text (table_name tables name.table) ++ codes "," ++ decimal name.key ++ codes ",["
    ++ join_by value_document (codes ",") row ++ codes "]]"

-- a row at the start of a line
abbrev pub row_on_line : List TableShape → RowName × RowOf → List ℕ
row_on_line tables e = line_end ++ row_document tables e.0 e.1

-- the document of rows: the line ["rows",1,[, each row on a line of its own, with a comma after each but the last, and
-- the line ]]
unfoldable pub document_of : List TableShape → List (RowName × RowOf) → List ℕ
document_of tables rows =
    codes "[" ++ json_text (codes "rows") ++ codes ",1,["
    ++ join_by (row_on_line tables) (codes ",") rows ++ line_end ++ codes "]]" ++ line_end

-- rule: command.document
-- the rows document of a database, in the order of the row text
abbrev pub rows_document : List TableShape → Database → List ℕ
rows_document tables db = document_of tables (rows_in_order tables db)

-- that of the rows of one table
abbrev pub table_document : List TableShape → ℕ → Database → List ℕ
table_document tables table db = document_of tables (rows_of table db)
