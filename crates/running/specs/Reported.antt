-- Claimed: what contracts promise to a reader rests on these words.
-- What was reported of batches one after another, and how a log is closed after them.
use Rattle.std.specs.Prelude.{◌≡◌, ℕ, ◌≤◌, List, ◌++◌, length, false, Option, Result, IfOk, IfErr, OnOk, ⊤}
use Rattle.std.specs.Io.KnownBytes.{Appends}
use Rattle.sha2.specs.Hashers.{Holds256}
use Rattle.values.specs.Database.{Database}
use Rattle.requests.specs.Requests.{Call}
use Rattle.meaning.specs.Serial.{serial_replies}
use Rattle.batch_log.specs.Log.{most_calls}
use Rattle.report_text.specs.Report.{end_text, entries_in, next_batch, reply_lines}
use Rattle.retries.specs.Standings.{after_batches, call_count, closing, closing_within, start_of, transactions_in, Standing}
use Rattle.engine.specs.Engines.{EngineParts, is_busy}
use Rattle.running.specs.declared.run_fault.RunFault.{RunFault}
use Rattle.running.specs.declared.transcript.Transcript.{Transcript}
use Rattle.running.specs.Batches.{KeepsDigest}
use Rattle.running.specs.Hashers.{batch_of, form_of, said_of}
use Rattle.running.specs.Standings.{standing_after, standing_of}
use Rattle.running.specs.Starts.{Start}
use Rattle.running.specs.Stopped.{at_end, in_batch, in_closing, reading, text_at, texts_of, AppendsAndFront, HaveClosed, IsEndedBy, Stage}

-- all reply lines of batches from a start
abbrev pub reply_text : Start → List (List Call) → List ℕ
reply_text start batches =
    reply_lines 0 (transactions_in start.retries start.rows batches)
    (serial_replies (entries_in (transactions_in start.retries start.rows batches)) start.rows)

-- These batches have run on the engine from a start, and each of them was reported.
pub record HasReported (start : Start) (ran : List (List Call)) (engine : EngineParts) (transcript : Transcript)
    (sink filled : Option (List ℕ)) : Type 0 where
  pub procs_are : engine.procs ≡ start.procs
  pub retries_are : engine.retries ≡ start.retries
  pub standing_is : standing_of engine ≡ standing_after start ran
  pub form_is : form_of transcript ≡ start.digest
  pub batch_is : batch_of transcript ≡ next_batch (length ran)
  pub said_is : Holds256 (said_of transcript) (reply_text start ran)
  pub text_is : Appends sink filled (texts_of start ran)

-- a standing is that after batches that have no more calls than a log may have
pub record IsAfterLog (retries : ℕ) (standing : Standing) : Type 0 where
  pub db : Database
  pub ran : List (List Call)
  pub standing_is : standing ≡ after_batches retries (start_of db) ran
  pub few : call_count ran ≤ most_calls retries

-- an engine that has run such batches of a log, whichever these are, and what was reported of them
pub record IsBetweenBatches (engine : EngineParts) (transcript : Transcript) : Type 0 where
  pub idle : is_busy engine ≡ false
  pub digest_kept : KeepsDigest engine transcript
  pub log : ∥ IsAfterLog engine.retries (standing_of engine) ∥₁

-- batches, and after them those that close a log
abbrev pub with_closing : Start → List (List Call) → List (List Call)
with_closing start ran = ran ++ closing start.retries (standing_after start ran)

-- Of the batches that close a log after these, the first ones are reported too, and at most n are left.
pub record HasClosed (start : Start) (ran : List (List Call)) (most : ℕ) (engine : EngineParts)
    (transcript : Transcript) (sink filled : Option (List ℕ)) : Type 0 where
  pub closers : List (List Call)
  pub reported : HasReported start (ran ++ closers) engine transcript sink filled
  pub first : closing start.retries (standing_after start ran)
      ≡ closers ++ closing_within start.retries most (standing_after start (ran ++ closers))

-- all of the log is read
abbrev pub HasReadAll : Stage → Type 0
HasReadAll reading = ⊥
HasReadAll (in_batch calls) = ⊥
HasReadAll in_closing = ⊤
HasReadAll at_end = ⊤

-- A fault stopped a run at this stage of closing its log after these batches.
pub record IsCutAt (stage : Stage) (start : Start) (ran : List (List Call)) (sink filled : Option (List ℕ))
    (fault : RunFault) : Type 0 where
  pub closers : List (List Call)
  pub ends : IsEndedBy stage false fault
  pub closed : HaveClosed stage start ran closers
  pub written : AppendsAndFront sink filled (texts_of start (ran ++ closers)) (text_at stage start (ran ++ closers))

-- A fault stopped a run that had read its log and was closing it after these batches.
pub record IsCutShort (start : Start) (ran : List (List Call)) (sink filled : Option (List ℕ)) (fault : RunFault)
    : Type 0 where
  pub stage : Stage
  pub all_read : HasReadAll stage
  pub cut : IsCutAt stage start ran sink filled fault

-- What comes of running the batches without calls that close a log after these: each was reported, or a fault stopped
-- one of them.
pub record ReportsClosing (start : Start) (ran : List (List Call)) (engine : EngineParts) (transcript : Transcript)
    (sink filled : Option (List ℕ)) (result : Result (Unit {0}) RunFault)
    : Type 0 where
  pub reported : OnOk result (HasReported start (with_closing start ran) engine transcript sink filled)
  pub stop : IfErr result (IsCutAt in_closing start ran sink filled)

-- What comes of closing a log after these batches: the batches without calls that close it were reported and the end
-- line was written, or a fault stopped it.
pub record IsClosing (start : Start) (ran : List (List Call)) (sink filled : Option (List ℕ))
    (result : Result ℕ RunFault) : Type 0 where
  pub count : IfOk result (λ n. n ≡ (standing_after start (with_closing start ran)).next)
  pub text : OnOk result (Appends sink filled (texts_of start (with_closing start ran)
      ++ end_text false start.digest start.procs.tables start.rows
      (transactions_in start.retries start.rows (with_closing start ran))))
  pub stop : IfErr result (IsCutShort start ran sink filled)
