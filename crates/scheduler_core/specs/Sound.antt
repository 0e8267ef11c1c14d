-- Claimed: what contracts promise to a reader rests on these words.
-- What is true of the rows at every moment, whatever the order in which transactions were lent their rows and settled.
use Rattle.std.specs.Prelude.{◌≡◌, ◌<◌, ◌≤◌, ℕ, suc, true, false, List, length, Some, slice_get}
use Rattle.std.specs.FinMap.{get}
use Rattle.values.specs.declared.name.RowName.{RowName}
use Rattle.catalogue.specs.Shapes.{TableShape}
use Rattle.values.specs.Database.{Database}
use Rattle.proclang_types.specs.declared.right.Right.TheVariants.{Write}
use Rattle.coarsen.specs.Clashes.{ModesClash, locks_row}
use Rattle.meaning.specs.Entries.{Reply, meaning}
use Rattle.scheduler_core.specs.declared.phase.Phase.{Phase}
use Rattle.scheduler_core.specs.Transactions.{Transaction, AgreeOnLocked, locks_at}
use Rattle.scheduler_core.specs.Serial.{serial_rows, serial_reply}
use Rattle.scheduler_core.specs.Phases.{is_settled, has_begun}

-- what is true of the rows at every moment, where rows that are lent count as they were lent: what is out or settled
-- began when all before it that are in conflict with it had settled, and a row name is as the serial run has it after
-- those of its writers that have settled
pub record IsSound (tables : List TableShape) (log : List Transaction) (start : Database) (phases : List Phase)
    (rows : Database) : Type 0 where
  pub within : length phases ≤ length log
  -- what is out or settled began when all before it that are in conflict with it had settled
  pub conflicts_settled : (i k : ℕ) (t u : Transaction) → i < k → slice_get log i ≡ Some t → slice_get log k ≡ Some u
      → has_begun (slice_get phases k) ≡ true → ModesClash t.plan u.plan → is_settled (slice_get phases i) ≡ true
  -- a row name whose writers before a place are all settled, and those from the place on
  -- not, is as the serial run has it there
  pub current : (name : RowName) (place : ℕ)
      → ((i : ℕ) → i < place → locks_at tables log i name Write ≡ true → is_settled (slice_get phases i) ≡ true)
      → ((i : ℕ) → place ≤ i → locks_at tables log i name Write ≡ true → is_settled (slice_get phases i) ≡ false)
      → get rows name ≡ get (serial_rows log start place) name

-- a job shows the rows of the serial run on the row names that its plan locks
abbrev pub IsLent : List TableShape → List Transaction → Database → ℕ → Database → Type 0
IsLent tables log start place shown =
    (t : Transaction) → slice_get log place ≡ Some t → AgreeOnLocked tables t.plan shown (serial_rows log start place)

-- what a job replies and shows after its run is what the serial run has there
pub record IsRun (tables : List TableShape) (log : List Transaction) (start : Database) (place : ℕ) (reply : Reply)
    (shown : Database) : Type 0 where
  pub replied : serial_reply log start place ≡ Some reply
  pub written : (t : Transaction) → slice_get log place ≡ Some t → (name : RowName)
      → locks_row tables t.plan name Write ≡ true
      → get shown name ≡ get (serial_rows log start (suc place)) name

-- the run of a job: on every database that agrees with what the job shows on the row names that its plan locks, the
-- entry has this reply, and leaves what the job shows afterwards on those names
pub record IsRunOf (tables : List TableShape) (t : Transaction) (shown : Database) (reply : Reply)
    (after : Database) : Type 0 where
  pub replies : (db : Database) → AgreeOnLocked tables t.plan shown db → (meaning t.entry db).0 ≡ reply
  pub leaves : (db : Database) → AgreeOnLocked tables t.plan shown db
      → AgreeOnLocked tables t.plan after (meaning t.entry db).1
