-- Claimed: what contracts promise to a reader rests on these words.
-- How far a log was read that comes piece by piece.
use Rattle.std.specs.Prelude.{◌≡◌, ℕ, ◌+◌, List, [], ◌∷◌, ◌++◌, length, false, Option, None, Some, Ok, Vec}
use Rattle.std.specs.declared.alloc.Global.{Global}
use Rattle.devices.specs.Lines.{has_newline}
use Rattle.requests.specs.ProcLists.{ProcsParts}
use Rattle.requests.specs.Requests as requests
use Rattle.batch_log.specs.declared.fault.LogFault.{LogFault}
use Rattle.batch_log.specs.declared.line.LogLine.TheVariants.{Call}
use Rattle.batch_log.specs.Lines.{lines_said, Lines}
use Rattle.batch_log.specs.Log.{batches_of, first_fault, last_batch, limited, log_said}

-- the batches of a log that are whole before its first fault, where a stale request is tried again that number of times
abbrev pub batches_said : ProcsParts → ℕ → List ℕ → List (List requests.Call)
batches_said procs retries log = batches_of (log_said retries procs.procs 0 0 log)

-- the first fault of a log
abbrev pub fault_said : ProcsParts → ℕ → List ℕ → Option LogFault
fault_said procs retries log = first_fault (log_said retries procs.procs 0 0 log)

-- where in a log a batch is that has not ended: how often a stale request is tried again, the batch's calls, how many
-- calls and lines of the log were read, and the beginning of a line whose end has not come
pub record Place : Type 0 where
  pub retries : ℕ
  pub calls : List requests.Call
  pub total : ℕ
  pub lines : ℕ
  pub line : List ℕ

-- calls, and then lines
abbrev pub after_calls : List requests.Call → Lines → Lines
after_calls [] lines = lines
after_calls (call ∷ calls) lines = (0, Ok (Call call)) ∷ after_calls calls lines

-- what a log says from a place on that goes on with these bytes: the calls of the batch, and what comes after them
abbrev pub said_from : ProcsParts → Place → List ℕ → Lines
said_from procs place more =
    after_calls place.calls
    (limited place.retries (length place.calls) place.total
    (lines_said procs.procs place.lines (place.line ++ more)))

-- After these bytes of a log these batches have ended, and this place is reached: however the log goes on, they are
-- its first batches, and its next ones and its first fault are those that it says from there on.
pub record IsAt (procs : ProcsParts) (place : Place) (ended : List (List requests.Call)) (fed : List ℕ) : Type 0 where
  pub batches : (more : List ℕ)
      → batches_said procs place.retries (fed ++ more) ≡ ended ++ batches_of (said_from procs place more)
  pub fault : (more : List ℕ) → fault_said procs place.retries (fed ++ more) ≡ first_fault (said_from procs place more)
  pub one_line : has_newline place.line ≡ false

-- these bytes are a whole log without a fault, whose batches are these and a last one of these calls, if there are any
pub record IsWhole (procs : ProcsParts) (retries : ℕ) (calls : List requests.Call) (ended : List (List requests.Call))
    (log : List ℕ) : Type 0 where
  pub batches : batches_said procs retries log ≡ ended ++ last_batch None calls
  pub fault : fault_said procs retries log ≡ None

-- a log has this first fault, and these batches are whole before it
pub record IsFaulty (procs : ProcsParts) (retries : ℕ) (found : LogFault) (ended : List (List requests.Call))
    (log : List ℕ) : Type 0 where
  pub batches : batches_said procs retries log ≡ ended
  pub first : fault_said procs retries log ≡ Some found

-- What a byte does to the calls of a place: each call that joins the batch is counted, or the batch comes out as it
-- was, and nothing is counted.
abbrev pub Counts : Place → Place → Option (Vec requests.Call Global) → Type 0
Counts old new None = new.total + length old.calls ≡ old.total + length new.calls
Counts old new (Some calls) = (calls.items ≡ old.calls) × (new.calls ≡ []) × (new.total ≡ old.total)
