-- Rows after the batches of a log's run, and runs that go on from their document.
use Rattle.std.proofs.Common.{◌≡◌, inl, inr, ℕ, false, List, [], ◌++◌, Option, None, sym, ap, ◌∙◌, subst}
use Rattle.std.specs.Prelude.{is_some}
use Rattle.std.specs.List.{AllByRecursion}
use Rattle.values.specs.Database.{Database}
use Rattle.catalogue.specs.Rules.{IsCatalogue}
use Rattle.requests.specs.Requests.{Call}
use Rattle.batch_log.specs.declared.fault.LogFault.{LogFault}
use Rattle.batch_log.specs.Places.{batches_said}
use Rattle.setup.specs.Says.{SaysSetup}
use Rattle.setup.specs.Setups.{SetupShape}
use Rattle.setup.specs.WithRows.{SaysSetupWithRows}
use Rattle.retries.specs.Moved.{raised}
use Rattle.retries.specs.Standings.{after_batches, closed, replies_at, start_of}
use Rattle.retries.proofs.Followed.{closed-append}
use Rattle.running.specs.Reports.{calls_in_turn, log_fault, rows_after}
use Rattle.running.specs.Standings.{standing_after}
use Rattle.running.specs.Starts.{Start}
use Rattle.rows_document.specs.Said.{AreRowsIn, IsReadBack, row_list, with_row_list}
use Rattle.rows_document.specs.Texts.{rows_document}
use Rattle.moved_rows.specs.GoingOn.{GoesOnFrom}
use Rattle.moved_rows.specs.Starts.{IsSaidSetup, IsStartOf, rows_left}
use Rattle.moved_rows.proofs.Calls.{IsSaidCall, log_batches}
use Rattle.moved_rows.proofs.Runs.{Leaves, closed_are, front_all, rows_after_batches}
use Rattle.moved_rows.proofs.Setups.{setup_parts, start_procs}

-- ---- rows of the tables

calls_are : (leaves : Leaves) (text : List ℕ) (s : SetupShape) (start : Start) (log : List ℕ) → IsSaidSetup text s → IsStartOf s start → AllByRecursion (λ calls. AllByRecursion (IsSaidCall s.tables) calls) (calls_in_turn start log)
calls_are leaves text s start log said of =
    closed_are leaves s.tables start.retries (is_some (log_fault start log)) (start_of start.rows) (batches_said start.procs start.retries log)
    (log_batches s.tables start.procs.procs (start_procs text s start said of) start.retries 0 0 log)

start_rows : (text : List ℕ) (s : SetupShape) (start : Start) → IsSaidSetup text s → IsStartOf s start → AreRowsIn s.tables start.rows
start_rows text s start said of = subst (AreRowsIn s.tables) (sym of.rows) (setup_parts text s said).rows

pub rows_of_whole : Leaves → (text : List ℕ) (s : SetupShape) (start : Start) (log : List ℕ) → IsSaidSetup text s → IsStartOf s start → AreRowsIn s.tables (rows_after start log)
rows_of_whole leaves text s start log said of =
    rows_after_batches leaves s.tables start.retries start.rows (calls_in_turn start log) (start_rows text s start said of) (calls_are leaves text s start log said of)

pub rows_of_front : Leaves → (text : List ℕ) (s : SetupShape) (start : Start) (log : List ℕ) (before later : List (List Call)) → IsSaidSetup text s → IsStartOf s start → calls_in_turn start log ≡ before ++ later
    → AreRowsIn s.tables (rows_left start before)
rows_of_front leaves text s start log before later said of is =
    rows_after_batches leaves s.tables start.retries start.rows before (start_rows text s start said of)
    (front_all (λ calls. AllByRecursion (IsSaidCall s.tables) calls) before later (subst (AllByRecursion (λ calls. AllByRecursion (IsSaidCall s.tables) calls)) is (calls_are leaves text s start log said of)))

-- ---- going on

pub catalogue_of : (text : List ℕ) (s : SetupShape) → IsSaidSetup text s → IsCatalogue s.tables
catalogue_of text s said = (setup_parts text s said).catalogue

abbrev pub Own : Type 0
Own = (text : List ℕ) (s : SetupShape) (db : Database) → SaysSetup text s → AreRowsIn s.tables db → SaysSetupWithRows text (rows_document s.tables db) (with_row_list s (row_list s.tables db))

abbrev pub Other : Type 0
Other = (text rows : List ℕ) (s : SetupShape) (db : Database) → SaysSetupWithRows text rows s → AreRowsIn s.tables db → SaysSetupWithRows text (rows_document s.tables db) (with_row_list s (row_list s.tables db))

says_with : Own → Other → (text : List ℕ) (s : SetupShape) (db : Database) → IsSaidSetup text s → AreRowsIn s.tables db → SaysSetupWithRows text (rows_document s.tables db) (with_row_list s (row_list s.tables db))
says_with own other text s db (inl h) rows = own text s db h rows
says_with own other text s db (inr h) rows = other text h.0 s db h.1 rows

abbrev pub AfterRows : Type 0
AfterRows = (retries : ℕ) (db : Database) (batches more : List (List Call)) → (after_batches retries (start_of db) batches).carried ≡ []
    → after_batches retries (start_of db) (batches ++ more) ≡ raised (after_batches retries (start_of db) batches).next (after_batches retries (start_of (after_batches retries (start_of db) batches).rows) more)

abbrev pub RepliesAfterRows : Type 0
RepliesAfterRows = (retries : ℕ) (db : Database) (batches more : List (List Call)) (calls : List Call) → (after_batches retries (start_of db) batches).carried ≡ []
    → replies_at (after_batches retries (start_of db) (batches ++ more)) calls ≡ replies_at (after_batches retries (start_of (after_batches retries (start_of db) batches).rows) more) calls

pub goes_on : Own → Other → AfterRows → RepliesAfterRows → (text : List ℕ) (s : SetupShape) (start : Start) (before : List (List Call)) → IsSaidSetup text s → IsStartOf s start
    → AreRowsIn s.tables (rows_left start before) → IsReadBack s.tables (rows_left start before) → (standing_after start before).carried ≡ []
    → GoesOnFrom text s start before
goes_on own other after replies text s start before said of rows back none = record {
  says = says_with own other text s (rows_left start before) said rows;
  starts = record { tables = of.tables; over = of.over; procs = of.procs; retries = of.retries; rows = sym back.same; digest = of.digest };
  replies = λ later calls. replies start.retries start.rows before later calls none;
  standings = λ later. after start.retries start.rows before later none;
}

-- ---- the end of a log

abbrev pub NothingIsLeft : Type 0
NothingIsLeft = (retries : ℕ) (db : Database) (batches : List (List Call)) → (after_batches retries (start_of db) (closed retries false (start_of db) batches)).carried ≡ []

pub none_left : NothingIsLeft → (start : Start) (log : List ℕ) → log_fault start log ≡ None → (standing_after start (calls_in_turn start log)).carried ≡ []
none_left nothing start log none =
    let batches = batches_said start.procs start.retries log in
    ap (λ (fault : Option LogFault). (after_batches start.retries (start_of start.rows) (closed start.retries (is_some fault) (start_of start.rows) batches)).carried) none
    ∙ nothing start.retries start.rows batches

-- ---- batches that a log says, before those that close it

-- the batches that a log says are a beginning of those of its run
pub said_front : (start : Start) (log : List ℕ) (before later : List (List Call)) → batches_said start.procs start.retries log ≡ before ++ later
    → (more : List (List Call)) × (calls_in_turn start log ≡ before ++ more)
said_front start log before later is =
    let faulty = is_some (log_fault start log) in (
      closed start.retries faulty (standing_after start before) later,
      ap (closed start.retries faulty (start_of start.rows)) is ∙ closed-append start.retries faulty (start_of start.rows) before later,
    )
