-- Claimed: what contracts promise to a reader rests on these words.
-- A run that goes on from the rows that another run left, by the document in which they are written.
use Rattle.std.specs.Prelude.{◌≡◌, ◌++◌, ℕ, List, [], ◌∷◌, None}
use Rattle.values.specs.Database.{Database}
use Rattle.requests.specs.Requests.{Call}
use Rattle.meaning.specs.Entries.{Reply}
use Rattle.setup.specs.Setups.{SetupShape}
use Rattle.setup.specs.WithRows.{SaysSetupWithRows}
use Rattle.retries.specs.Moved.{raised}
use Rattle.retries.specs.Standings.{Standing, after_batch, replies_at, start_of}
use Rattle.running.specs.Reports.{calls_in_turn, log_fault, rows_after}
use Rattle.running.specs.Standings.{standing_after}
use Rattle.running.specs.Starts.{Start}
use Rattle.rows_document.specs.Said.{row_list, with_row_list}
use Rattle.rows_document.specs.Texts.{rows_document}
use Rattle.moved_rows.specs.Starts.{IsStartOf, rows_left}

-- a start on other rows
abbrev pub on_rows : Start → Database → Start
on_rows start db = record start { rows = db }

-- a setup with the rows of a database as its starting rows, tables in declared order and keys ascending
abbrev pub with_rows_of : SetupShape → Database → SetupShape
with_rows_of s db = with_row_list s (row_list s.tables db)

-- With the rows document of the rows that these batches leave from a start, the setup's text says the setup with these
-- rows, and the start on these rows is a start of that setup. From there, whatever batches come later, each has the
-- replies that it has after these batches, and all of them leave the same rows and carry the same requests; numbers
-- begin at 0 again.
pub record GoesOnFrom (text : List ℕ) (s : SetupShape) (start : Start) (before : List (List Call)) : Type 0 where
  pub says : SaysSetupWithRows text (rows_document s.tables (rows_left start before))
      (with_rows_of s (rows_left start before))
  pub starts : IsStartOf (with_rows_of s (rows_left start before)) (on_rows start (rows_left start before))
  pub replies : (later : List (List Call)) (calls : List Call) →
      replies_at (standing_after start (before ++ later)) calls
      ≡ replies_at (standing_after (on_rows start (rows_left start before)) later) calls
  pub standings : (later : List (List Call)) → standing_after start (before ++ later)
      ≡ raised (standing_after start before).next
      (standing_after (on_rows start (rows_left start before)) later)

-- ---- two runs as one

-- of each batch its replies, and the rows after it
abbrev pub outcomes_from : ℕ → Standing → List (List Call) → List (List Reply × Database)
outcomes_from retries s [] = []
outcomes_from retries s (calls ∷ rest) =
    (replies_at s calls, (after_batch retries s calls).rows) ∷ outcomes_from retries (after_batch retries s calls) rest

-- the outcomes of the batches of a log's run from a start
abbrev pub outcomes_of : Start → List ℕ → List (List Reply × Database)
outcomes_of start log = outcomes_from start.retries (start_of start.rows) (calls_in_turn start log)

-- The run of a log's beginning from one start, and then the run of the rest from another, are together the run of the
-- whole log: the second begins with the rows that the first leaves, has no fault, and leaves the rows that the log
-- leaves; and batch by batch there are the same replies and the same rows. So there are the same digests of rows, as
-- both runs take them of the same text of the rows of the same tables.
pub record AreOneRun (start : Start) (first : List ℕ) (again : Start) (rest : List ℕ) : Type 0 where
  pub begins : again.rows ≡ rows_after start first
  pub tables : again.procs.tables ≡ start.procs.tables
  pub digest : again.digest ≡ start.digest
  pub fault : log_fault again rest ≡ None
  pub outcomes : outcomes_of start (first ++ rest) ≡ outcomes_of start first ++ outcomes_of again rest
  pub rows : rows_after start (first ++ rest) ≡ rows_after again rest
