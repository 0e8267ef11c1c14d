-- Claimed: what contracts promise to a reader rests on these words.
-- The plans of a log's first batch, and their text.
use Rattle.std.specs.Prelude.{◌≡◌, ℕ, ◌+◌, ◌≤◌, ◌||◌, List, [], ◌∷◌, ◌++◌, length, false, Option, Some, None, Result, Ok, Err, String, string_bytes, map, IfOk, IfErr, IfSome, IsOkAnd}
use Rattle.std.specs.declared.alloc.Global.{Global}
use Rattle.std.specs.Io.KnownBytes.{Consumes, prepend_known}
use Rattle.devices.specs.Devices.{Passes}
use Rattle.catalogue.specs.Shapes.{TableShape}
use Rattle.values.specs.Database.{Database}
use Rattle.requests.specs.ProcLists.{ProcsParts}
use Rattle.coarsen.specs.Subtrees.{Requests}
use Rattle.meaning.specs.Entries.{EntryShape}
use Rattle.scheduler.specs.Logs.{ArePlansOf}
use Rattle.batch_log.specs.Places.{fault_said}
use Rattle.batch_log.specs.declared.fault.LogFault.{LogFault}
use Rattle.batch_log.specs.Taken.{TakesCalls}
use Rattle.report_text.specs.PlanTexts.{plan_lines}
use Rattle.report_text.specs.Report.{entries_in}
use Rattle.dispatcher.specs.declared.settings.Settings.{Settings}
use Rattle.running.specs.Starts.{start_at}
use Rattle.running.specs.declared.run_fault.RunFault.{RunFault}
use Rattle.running.specs.Reports.{batches_in}
use Rattle.running.specs.Runs.{Device}
use Rattle.running.specs.Stops.{ends_in_io, IfOfLine, IfOfMachine, IsLineOf, IsNotOfThread}
use Rattle.row_text.specs.declared.form.DigestForm.TheVariants.{Rows}

-- ---- plans

-- the lines of plans, in order and numbered from a first one
abbrev pub plans_text : List TableShape → ℕ → List Requests → List ℕ
plans_text tables number [] = []
plans_text tables number (plan ∷ plans) = plan_lines tables number plan ++ plans_text tables (number + 1) plans

-- the text of the plans of entries, which are numbered from 0
pub record IsPlansText (tables : List TableShape) (settings : Settings) (entries : List EntryShape)
    (text : List ℕ) : Type 0 where
  pub plans : List Requests
  pub of_entries : ArePlansOf settings.threshold settings.arena entries plans
  pub lines : text ≡ plans_text tables 0 plans

-- Law: entries have one text.
abbrev pub PlansHaveOneText : Type 0
PlansHaveOneText =
    (tables : List TableShape) (settings : Settings) (entries : List EntryShape) (a b : List ℕ)
    → IsPlansText tables settings entries a → IsPlansText tables settings entries b → a ≡ b

-- ---- the first batch of a log

-- the first batch, or the fault that comes before its end; a log that ends before either has no entry
abbrev pub first_of : List (List EntryShape) → Option LogFault → Result (List EntryShape) LogFault
first_of (batch ∷ batches) fault = Ok batch
first_of [] (Some fault) = Err fault
first_of [] None = Ok []

-- the entries of a log's first batch, on procedures and starting rows, or the fault that comes before its end; none
-- where the log ends before either, and the same whatever digests are of
abbrev pub first_batch : ProcsParts → ℕ → Database → List ℕ → Result (List EntryShape) LogFault
first_batch procs retries db log =
    first_of (map entries_in (batches_in (start_at procs retries db Rows) log)) (fault_said procs retries log)

-- rule: command.locks
-- The plans of the first batch of the log that a source has left, on procedures and starting rows: the source before
-- and after, and the plans' text or a fault.
pub record IsFirstBatchPlanned (procs : ProcsParts) (retries : ℕ) (db : Database) (settings : Settings)
    (source spent : Device) (result : Result (String Global) RunFault) : Type 0 where
  -- The text is that of the first batch.
  pub text : IfOk result (λ text. IfSome source.bytes
      (λ log. IsOkAnd (first_batch procs retries db log)
      (λ entries. IsPlansText procs.tables settings entries (string_bytes text))))
  -- A fault of a line is the log's first, and comes before the first batch ends.
  pub fault : IfErr result
      (λ e. IfOfLine e (λ fault. IfSome source.bytes (λ log. first_batch procs retries db log ≡ Err fault)))
  -- The fault of a device comes exactly where the source has failed meanwhile. No thread is refused. Each fault names
  -- its line.
  pub device : spent.failed ≡ (source.failed || ends_in_io result)
  pub threadless : IsNotOfThread result
  pub line : source.failed ≡ false → IfErr result (λ e. IfOfMachine e (IsLineOf spent.failed source.bytes spent.bytes))
  -- What was read is a beginning of the log.
  pub read : (taken : List ℕ) × Consumes source.bytes spent.bytes taken
  -- Lines of calls were taken, and then of one more line all, a beginning or nothing. At most 4,096 bytes came ahead of
  -- what was taken, and were lost.
  pub last : (ahead : List ℕ) × (length ahead ≤ 4096) × Passes (TakesCalls retries procs.procs 0 (ends_in_io result))
      source.bytes (prepend_known ahead spent.bytes)
