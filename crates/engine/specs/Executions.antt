-- Claimed: what contracts promise to a reader rests on these words.
-- What executing a batch comes to.
use Rattle.std.specs.Prelude.{◌≡◌, ◌+◌, ◌<◌, ◌^◌, List, [], length, map, true, Option, Some, None, ⊤}
use Rattle.meaning.specs.Serial.{serial_end, serial_replies}
use Rattle.sequencer.specs.declared.batch.Batch.{Batch}
use Rattle.sequencer.specs.Attempts.{Attempt, left_of}
use Rattle.engine.specs.declared.fault.ExecFault.{ExecFault}
use Rattle.engine.specs.declared.fault.ExecFault.TheVariants.{Busy, LogFull, Spawn, NoMemory}
use Rattle.dispatcher.specs.declared.refusal.Refusal.{Refusal}
use Rattle.dispatcher.specs.declared.refusal.Refusal.TheVariants.{Thread, Memory}
use Rattle.engine.specs.declared.replies.BatchDone.{BatchDone}
use Rattle.engine.specs.Batches.{entries_of, next_attempts}
use Rattle.engine.specs.Engines.{EngineParts, Unfinished, is_busy}
use Rattle.dispatcher.specs.Runs.{NoneIsOut, StaysSettled}
use Rattle.engine.specs.Replies.{reply_of, sent_of, sent_from}

-- procedures, with their tables, settings, and how often a stale request is tried again are as they were
pub record KeepsSetting (old new : EngineParts) : Type 0 where
  pub procs : new.procs ≡ old.procs
  pub settings : new.settings ≡ old.settings
  pub retries : new.retries ≡ old.retries

-- a batch of these attempts was run: their entries one by one on the rows before it give the replies, and leave the
-- rows; and of those that were stale the requests are carried on that had few enough attempts before
pub record IsExecutionOf (old new : EngineParts) (attempts : List Attempt) (run : BatchDone) : Type 0 where
  pub first : run.first ≡ old.next
  pub sent : map sent_of run.replies.items ≡ sent_from old.next attempts
  pub replies : map reply_of run.replies.items ≡ serial_replies (entries_of old.rows attempts) old.rows
  pub rows : new.rows ≡ serial_end (entries_of old.rows attempts) old.rows
  pub next : new.next ≡ old.next + length attempts
  pub carried : new.carried
      ≡ left_of old.retries old.next attempts (serial_replies (entries_of old.rows attempts) old.rows)
  pub idle : new.unfinished ≡ None

-- the attempts of a batch as it is taken: nothing of it is admitted
abbrev pub taken : List Attempt → Unfinished
taken attempts = record { attempts = attempts; phases = [] }

-- the same batch: no job of it is out, and what was settled of it is settled still
pub record Waits (old new : Unfinished) : Type 0 where
  pub attempts : new.attempts ≡ old.attempts
  pub none_out : NoneIsOut new.phases
  pub settled : StaysSettled old.phases new.phases

abbrev pub WaitsIn : Option Unfinished → Option Unfinished → Type 0
WaitsIn None new = ⊥
WaitsIn (Some old) None = ⊥
WaitsIn (Some old) (Some new) = Waits old new

-- what an engine keeps while it holds a batch: that batch has no numbers yet, the rows are those before it, and nothing
-- is carried beside it
pub record Holds (old new : EngineParts) : Type 0 where
  pub next : new.next ≡ old.next
  pub rows : new.rows ≡ old.rows
  pub carried : new.carried ≡ []

-- A batch was not run to its end, and the engine holds it with all that was carried to it. Where a thread was refused,
-- nothing of it has run in this call. If allocation failed, some of it may have run, or all.
abbrev pub IsInterruption : EngineParts → Option Unfinished → EngineParts → ExecFault → Type 0
IsInterruption old unfinished new (Busy back) = ⊥
IsInterruption old unfinished new (LogFull back) = ⊥
IsInterruption old unfinished new Spawn = (new.unfinished ≡ unfinished) × Holds old new
IsInterruption old unfinished new NoMemory = WaitsIn unfinished new.unfinished × Holds old new

-- The batch was not run: it comes back from a busy engine, and where the log would have more than 2^48 transactions,
-- and nothing is changed; or it was taken and interrupted.
abbrev pub IsRefusal : EngineParts → EngineParts → Batch → ExecFault → Type 0
IsRefusal old new batch (Busy back) = (back ≡ batch) × (is_busy old ≡ true) × (new ≡ old)
IsRefusal old new batch (LogFull back) =
    (back ≡ batch) × (2 ^ 48 < old.next + length (next_attempts old batch)) × (new ≡ old)
IsRefusal old new batch Spawn = IsInterruption old (Some (taken (next_attempts old batch))) new Spawn
IsRefusal old new batch NoMemory = IsInterruption old (Some (taken (next_attempts old batch))) new NoMemory

-- a thread was refused
abbrev pub IsSpawn : ExecFault → Type 0
IsSpawn Spawn = ⊤
IsSpawn fault = ⊥

-- the batch came back
abbrev pub IsBack : ExecFault → Type 0
IsBack (Busy batch) = ⊤
IsBack (LogFull batch) = ⊤
IsBack Spawn = ⊥
IsBack NoMemory = ⊥

-- what resuming an unfinished batch comes to
abbrev pub ResumesTo : EngineParts → EngineParts → Option Unfinished → BatchDone → Type 0
ResumesTo old new None done = ⊥
ResumesTo old new (Some unfinished) done = IsExecutionOf old new unfinished.attempts done

-- what is answered where the system refused something
abbrev pub fault_from : Refusal → ExecFault
fault_from Thread = Spawn
fault_from Memory = NoMemory
