-- Claimed: what contracts promise to a reader rests on these words.
-- What a run starts from.
use Rattle.std.specs.Prelude.{ℕ}
use Rattle.std.specs.FinMap.{empty}
use Rattle.values.specs.Database.{Database}
use Rattle.requests.specs.ProcLists.{ProcsParts}
use Rattle.row_store.specs.Stock.{with_rows}
use Rattle.row_text.specs.declared.form.DigestForm.{DigestForm}
use Rattle.setup.specs.declared.document.SetupDocument.{SetupDocument}
use Rattle.engine.specs.Engines.{EngineParts}

-- the procedures, how often a stale request is tried again, the starting rows, and of which text of the rows the
-- digests in a report are
pub record Start : Type 0 where
  pub procs : ProcsParts
  pub retries : ℕ
  pub rows : Database
  pub digest : DigestForm

-- the start of these parts
abbrev pub start_at : ProcsParts → ℕ → Database → DigestForm → Start
start_at procs retries rows digest = record { procs = procs; retries = retries; rows = rows; digest = digest }

-- what a run on a setup document starts from
abbrev pub start_in : SetupDocument → Start
start_in document =
    start_at document.setup.procs document.setup.retries (with_rows empty document.setup.rows.items) document.digest

-- what an engine goes on from, where digests are of this text of the rows
abbrev pub start_on : EngineParts → DigestForm → Start
start_on engine digest = start_at engine.procs engine.retries engine.rows digest
