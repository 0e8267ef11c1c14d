-- Claimed: what contracts promise to a reader rests on these words.
-- The rows of a session, and what is told of them.
use Rattle.std.specs.Prelude.{◌≡◌, ◌<◌, ◌^◌, ℕ, Bool, true, false, nat_lt, if◌then◌else◌, List, length, Option, None, Some, Result, Ok, Err, ok_or, ⊤}
use Rattle.std.specs.FinMap.{get}
use Rattle.documents.specs.Reading.{◌>>=◌}
use Rattle.values.specs.Database.{Database, RowOf}
use Rattle.catalogue.specs.Places.{table_named}
use Rattle.workspace.specs.Scan.{is_after}
use Rattle.requests.specs.Requests.{Call}
use Rattle.batch_log.specs.Places.{IsAt, Place}
use Rattle.row_text.specs.Partitions.{digested_text}
use Rattle.row_text.specs.Texts.{digest}
use Rattle.rows_document.specs.Texts.{rows_document}
use Rattle.running.specs.Standings.{standing_after}
use Rattle.running.specs.Starts.{Start}
use Rattle.session.specs.declared.rows.RowsFault.{RowsFault}
use Rattle.session.specs.declared.rows.RowsFault.TheVariants.{NoMemory, NoTable, Stopped}
use Rattle.session.specs.declared.session.Session.{Session}
use Rattle.session.specs.declared.session.SessionFault.{SessionFault}
use Rattle.session.specs.declared.session.SessionFault.TheVariants.{Over, Log}
use Rattle.session.specs.Sessions.{carried_of, form_of, rows_of, stop_of, tables_of}

-- these batches end in these bytes of a log from a start, and no others
pub record AreEndedIn (start : Start) (fed : List ℕ) (ended : List (List Call)) : Type 0 where
  pub place : Place
  pub limit : place.retries ≡ start.retries
  pub at : IsAt start.procs place ended fed

-- the rows after the batches that end in these bytes
abbrev pub AreRowsAfter : Start → List ℕ → Database → Type 0
AreRowsAfter start fed rows =
    (ended : List (List Call)) × AreEndedIn start fed ended ×
    (rows ≡ (standing_after start ended).rows)

-- how many requests are carried after the batches that end in these bytes
abbrev pub IsCarriedAfter : Start → List ℕ → ℕ → Type 0
IsCarriedAfter start fed count =
    (ended : List (List Call)) × AreEndedIn start fed ended ×
    (count ≡ length (standing_after start ended).carried)

-- ---- whether anything is told

-- rows are told of until a fault stops the run, and after the end of the log
abbrev pub told_until : Option SessionFault → Result ⊤ RowsFault
told_until None = Ok tt
told_until (Some Over) = Ok tt
told_until (Some (Log fault)) = Err (Stopped fault)

-- the place of the table with a name, or why nothing is told of it
abbrev pub table_said : Session → List ℕ → Result ℕ RowsFault
table_said session name =
    told_until (stop_of session) >>= (λ x. ok_or (table_named (tables_of session) name) NoTable)

-- this is told of the table, or why nothing is
abbrev pub Tells : {T : Type 0} → Result ℕ RowsFault → (ℕ → T → Type 0) → Result T RowsFault → Type 0
Tells (Ok table) P (Ok answer) = P table answer
Tells (Ok table) P (Err fault) = ⊥
Tells (Err fault) P (Ok answer) = ⊥
Tells (Err fault) P (Err told) = told ≡ fault

-- an allocation failed
abbrev pub is_of_memory : RowsFault → Bool
is_of_memory (Stopped fault) = false
is_of_memory NoTable = false
is_of_memory (NoMemory e) = true

-- how many requests are carried past the rows
abbrev pub carried_said : Session → Result ℕ RowsFault
carried_said session = told_until (stop_of session) >>= (λ x. Ok (carried_of session))

-- ---- single rows

-- the row of a table with a key, if there is one: a key is below 2^63
abbrev pub row_with : Database → ℕ → ℕ → Option RowOf
row_with db table key = if nat_lt key (2 ^ 63) then get db (record { table = table; key = key }) else None

-- the row of a table with the least key after one, or with the least of all
pub record IsLeastAfter (db : Database) (table : ℕ) (after : Option ℕ) (found : ℕ × RowOf) : Type 0 where
  pub later : is_after after found.0 ≡ true
  pub row : get db (record { table = table; key = found.0 }) ≡ Some found.1
  pub least : (key : ℕ) → is_after after key ≡ true → key < found.0
      → get db (record { table = table; key = key }) ≡ None

-- what comes next in a table after a key, or from the start: the row with the least key, if there is any
abbrev pub IsNextOfTable : Database → ℕ → Option ℕ → Option (ℕ × RowOf) → Type 0
IsNextOfTable db table after None =
    (key : ℕ) → is_after after key ≡ true → get db (record { table = table; key = key }) ≡ None
IsNextOfTable db table after (Some found) = IsLeastAfter db table after found

-- ---- all rows

-- the digest of the rows, in the setup's form
abbrev pub digest_said : Session → Result (List ℕ) RowsFault
digest_said session =
    told_until (stop_of session) >>= (λ x. Ok (digest (digested_text (form_of session) (tables_of session)
    (rows_of session))))

-- the document of the rows
abbrev pub document_said : Session → Result (List ℕ) RowsFault
document_said session =
    told_until (stop_of session) >>= (λ x. Ok (rows_document (tables_of session) (rows_of session)))
