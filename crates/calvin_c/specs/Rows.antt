-- Claimed: what contracts promise to a reader rests on these words.
-- Rows as C sees them.
use Rattle.std.specs.Prelude.{◌≡◌, ◌⊎◌, ◌-◌, ◌==◌, ℕ, ℤ, List, Option, Some, None, Result, Ok, Err, if◌then◌else◌}
use Rattle.values.specs.Database.{Database, RowOf}
use Rattle.documents.specs.Reading.{◌>>=◌}
use Rattle.session.specs.declared.rows.RowsFault.{RowsFault}
use Rattle.session.specs.declared.session.Session.{Session}
use Rattle.session.specs.Rows.{row_with, table_said, IsNextOfTable}
use Rattle.session.specs.Sessions.{rows_of}
use Rattle.calvin_c.specs.declared.cells.ValueCell.{ValueCell}
use Rattle.calvin_c.specs.Statuses.{done, none, rows_status}
use Rattle.calvin_c.specs.Values.{AreValues}

-- the row of a table with a key, if there is one, or why nothing is told of it
abbrev pub row_said : Session → List ℕ → ℕ → Result (Option RowOf) RowsFault
row_said session name key = table_said session name >>= (λ place. Ok (row_with (rows_of session) place key))

-- C is given this row, or that there is none, or why nothing is told
abbrev pub TellsRow : ℤ → ℕ → List ValueCell → Result (Option RowOf) RowsFault → Type 0
TellsRow status count cells (Ok (Some row)) = (status ≡ done) × AreValues count cells row
TellsRow status count cells (Ok None) = (status ≡ none) × (count ≡ 0)
TellsRow status count cells (Err fault) = (status ≡ rows_status fault) × (count ≡ 0)

-- the key after which those of at least this number are
abbrev pub key_before : ℕ → Option ℕ
key_before least = if least == 0 then None else Some (least - 1)

-- C is given the row with this key, which is the next one of a table, or that there is none
abbrev pub TellsNext : Database → ℤ → ℕ → ℕ → List ValueCell → Option ℕ → ℕ → Type 0
TellsNext db status key count cells after table =
    ((status ≡ none) × (key ≡ 0) × (count ≡ 0) × IsNextOfTable db table after None)
    ⊎ ((row : RowOf) × (status ≡ done) × IsNextOfTable db table after (Some (key, row)) × AreValues count cells row)

-- the same of the table that was found, or why nothing is told
abbrev pub TellsNextOf : Database → ℤ → ℕ → ℕ → List ValueCell → Option ℕ → Result ℕ RowsFault → Type 0
TellsNextOf db status key count cells after (Ok table) = TellsNext db status key count cells after table
TellsNextOf db status key count cells after (Err fault) = (status ≡ rows_status fault) × (key ≡ 0) × (count ≡ 0)

-- C is given how many calls are carried, or why nothing is told
abbrev pub TellsCarried : ℤ → ℕ → Result ℕ RowsFault → Type 0
TellsCarried status count (Ok carried) = (status ≡ done) × (count ≡ carried)
TellsCarried status count (Err fault) = (status ≡ rows_status fault) × (count ≡ 0)

-- whether a digest or a document is told
abbrev pub text_status : Result (List ℕ) RowsFault → ℤ
text_status (Ok text) = done
text_status (Err fault) = rows_status fault
