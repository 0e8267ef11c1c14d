-- Claimed: what contracts promise to a reader rests on these words.
-- Rows as lines. Words are separated by one space, and each line ends with a newline byte.
use Rattle.std.specs.Prelude.{ℕ, nat_lt, List, [], ◌∷◌, ◌++◌, length, filter, codes, option_map, unwrap_or, slice_get}
use Rattle.std.specs.Fmt.{decimal, signed_decimal}
use Rattle.std.specs.FinMap.{entries}
use Rattle.sha2.specs.Sha256.{sha256}
use Rattle.hex.specs.Hex.{encode_lower}
use Rattle.values.specs.declared.name.RowName.{RowName}
use Rattle.values.specs.declared.value.Value.{Value}
use Rattle.values.specs.declared.value.Value.TheVariants.{Int, Text}
use Rattle.catalogue.specs.Shapes.{TableShape}
use Rattle.values.specs.Database.{Database, RowOf}

-- a newline
abbrev pub line_end : List ℕ
line_end = 10 ∷ []

-- rule: report.values
-- an Int in decimal, a Text as `x` and the lower-case hexadecimal of its bytes
unfoldable pub value_text : Value → List ℕ
value_text (Int z) = signed_decimal z
value_text (Text s) = codes "x" ++ encode_lower s

-- each value after a space
abbrev pub values_text : List Value → List ℕ
values_text [] = []
values_text (v ∷ vs) = (codes " " ++ value_text v) ++ values_text vs

-- a table's name, and nothing for a table that is not there
abbrev pub table_name : List TableShape → ℕ → List ℕ
table_name tables table = unwrap_or (option_map (λ t. t.name) (slice_get tables table)) []

-- TABLE KEY V1 .. Vn
unfoldable pub row_line : List TableShape → RowName → RowOf → List ℕ
row_line tables name row = table_name tables name.table ++ codes " " ++ decimal name.key ++ values_text row ++ line_end

-- the lines of rows, one after the other
abbrev pub row_lines : List TableShape → List (RowName × RowOf) → List ℕ
row_lines tables [] = []
row_lines tables (e ∷ es) = row_line tables e.0 e.1 ++ row_lines tables es

-- the rows of these tables, tables in declared order and keys ascending
abbrev pub rows_in_order : List TableShape → Database → List (RowName × RowOf)
rows_in_order tables db = filter (λ e. nat_lt e.0.table (length tables)) (entries db)

-- rule: report.rows
-- the row lines of a database
abbrev pub row_text : List TableShape → Database → List ℕ
row_text tables db = row_lines tables (rows_in_order tables db)

-- the SHA-256 of a text (FIPS 180-4), in 64 lower-case hexadecimal digits
unfoldable pub digest : List ℕ → List ℕ
digest text = encode_lower (sha256 text)
