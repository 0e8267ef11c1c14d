-- Claimed: what contracts promise to a reader rests on these words.
-- The setups that texts say, and runs that start from them.
use Rattle.std.specs.Prelude.{◌≡◌, ◌⊎◌, ℕ, List, map}
use Rattle.std.specs.FinMap.{empty}
use Rattle.values.specs.Database.{Database}
use Rattle.proclang_types.specs.Procedures.{proc_syntax}
use Rattle.requests.specs.ProcLists.{AreOver}
use Rattle.requests.specs.Requests.{Call}
use Rattle.shelves.specs.Rows.{with_rows}
use Rattle.setup.specs.Says.{SaysSetup}
use Rattle.setup.specs.Setups.{SetupShape}
use Rattle.setup.specs.WithRows.{SaysSetupWithRows}
use Rattle.running.specs.Standings.{standing_after}
use Rattle.running.specs.Starts.{Start}

-- a text says a setup, with its own starting rows or with those that another text says
abbrev pub IsSaidSetup : List ℕ → SetupShape → Type 0
IsSaidSetup text s = SaysSetup text s ⊎ ((rows : List ℕ) × SaysSetupWithRows text rows s)

-- a start of a setup: procedures of its syntax, over its tables, how often it has stale requests tried again, its
-- starting rows, and the text of which its digests are
pub record IsStartOf (s : SetupShape) (start : Start) : Type 0 where
  pub tables : start.procs.tables ≡ s.tables
  pub over : AreOver s.tables start.procs.procs
  pub procs : map proc_syntax start.procs.procs ≡ s.procs
  pub retries : start.retries ≡ s.retries
  pub rows : start.rows ≡ with_rows empty s.rows
  pub digest : start.digest ≡ s.digest

-- the rows that batches leave from a start
abbrev pub rows_left : Start → List (List Call) → Database
rows_left start batches = (standing_after start batches).rows
