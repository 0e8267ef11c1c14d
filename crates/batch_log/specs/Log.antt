-- Claimed: what contracts promise to a reader rests on these words.
-- What a log says: the batches that are whole before its first fault, and that fault.
use Rattle.std.specs.Prelude.{◌≡◌, ℕ, zero, suc, ◌+◌, ◌^◌, ◌&&◌, nat_lt, length, Vec, Bool, List, [], ◌∷◌, Option, Some, None, Result, Ok, Err, if◌then◌else◌}
use Rattle.std.specs.declared.alloc.Global.{Global}
use Rattle.proclang_types.specs.Procedures.{ProcParts}
use Rattle.requests.specs.Requests as requests
use Rattle.batch_log.specs.Lines.{lines_said, Lines}
use Rattle.batch_log.specs.declared.fault.LogFaultKind.{LogFaultKind}
use Rattle.batch_log.specs.declared.fault.LogFaultKind.TheVariants.{BatchTooLong}
use Rattle.batch_log.specs.declared.fault.LogFault.{LogFault}
use Rattle.batch_log.specs.declared.line.LogLine.{LogLine}
use Rattle.batch_log.specs.declared.line.LogLine.TheVariants.{Call, Cut}

-- ---- how many calls there may be

-- how many calls a log has at most: fewer where a stale request is tried again, so that all attempts have numbers below
-- 2^48
abbrev pub most_calls : ℕ → ℕ
most_calls zero = 2 ^ 48
most_calls (suc retries) = 2 ^ 46

-- rule: batch.limit
-- a batch has at most 4,096 calls, and a log at most as many as it may where a stale request is tried again so often
abbrev pub is_room : ℕ → ℕ → ℕ → Bool
is_room retries calls total = nat_lt calls 4096 && nat_lt total (most_calls retries)

-- a line, after n calls of its batch and m of the log: a call for which there is no room is a fault
abbrev pub within : ℕ → ℕ → ℕ → Result LogLine LogFaultKind → Result LogLine LogFaultKind
within retries calls total (Ok (Call call)) = if is_room retries calls total then Ok (Call call) else Err BatchTooLong
within retries calls total (Ok Cut) = Ok Cut
within retries calls total (Err kind) = Err kind

-- how many calls its batch has after a line; a cut begins a new one
abbrev pub calls_after : ℕ → Result LogLine LogFaultKind → ℕ
calls_after calls (Ok (Call call)) = calls + 1
calls_after calls (Ok Cut) = 0
calls_after calls (Err kind) = calls

-- how many calls the log has after a line
abbrev pub total_after : ℕ → Result LogLine LogFaultKind → ℕ
total_after total (Ok (Call call)) = total + 1
total_after total (Ok Cut) = total
total_after total (Err kind) = total

-- the lines by the rule of how many calls there may be, after n of the batch and m of the log
abbrev pub limited : ℕ → ℕ → ℕ → Lines → Lines
limited retries calls total [] = []
limited retries calls total (line ∷ rest) = (line.0, within retries calls total line.1)
    ∷ limited retries (calls_after calls line.1) (total_after total line.1) rest

-- what a log says from a place on where a batch begins, after n newlines and m calls, where a stale request is
-- tried again so often
abbrev pub log_said : ℕ → List ProcParts → ℕ → ℕ → List ℕ → Lines
log_said retries procs newlines total text = limited retries 0 total (lines_said procs newlines text)

-- ---- the first fault, and the batches before it

-- the fault of one line, before those of the rest
abbrev pub or_fault : ℕ → Result LogLine LogFaultKind → Option LogFault → Option LogFault
or_fault n (Ok said) later = later
or_fault n (Err kind) later = Some (record { kind = kind; line = n })

-- the fault of the first line that has one, with its number
abbrev pub first_fault : Lines → Option LogFault
first_fault [] = None
first_fault (line ∷ rest) = or_fault line.0 line.1 (first_fault rest)

-- a call goes into the first batch
abbrev pub into_first : requests.Call → List (List requests.Call) → List (List requests.Call)
into_first call [] = (call ∷ []) ∷ []
into_first call (calls ∷ batches) = (call ∷ calls) ∷ batches

-- a line before those of the rest, which are cut apart
abbrev pub before_batches : Result LogLine LogFaultKind → List (List requests.Call) → List (List requests.Call)
before_batches (Ok (Call call)) batches = into_first call batches
before_batches (Ok Cut) batches = [] ∷ batches
before_batches (Err kind) batches = [] ∷ []

-- rule: batch.cut
-- the calls up to the first fault, cut apart at each cut: one list more than there are cuts
abbrev pub cut_apart : Lines → List (List requests.Call)
cut_apart [] = [] ∷ []
cut_apart (line ∷ rest) = before_batches line.1 (cut_apart rest)

-- rule: batch.last
-- The end of a log ends a batch of the calls before it, unless there are none. A fault ends none.
abbrev pub last_batch : Option LogFault → List requests.Call → List (List requests.Call)
last_batch (Some fault) calls = []
last_batch None [] = []
last_batch None (call ∷ calls) = (call ∷ calls) ∷ []

-- rule: batch.whole
-- each batch that a cut ends, and perhaps a last one
abbrev pub whole_batches : Option LogFault → List (List requests.Call) → List (List requests.Call)
whole_batches fault [] = []
whole_batches fault (calls ∷ []) = last_batch fault calls
whole_batches fault (calls ∷ next ∷ batches) = calls ∷ whole_batches fault (next ∷ batches)

-- the batches that are whole before the first fault
abbrev pub batches_of : Lines → List (List requests.Call)
batches_of lines = whole_batches (first_fault lines) (cut_apart lines)

-- a log begins with this batch, and goes on with the rest
pub record IsNextBatch (lines : Lines) (calls : List requests.Call) (rest : Lines) : Type 0 where
  pub batches : batches_of lines ≡ calls ∷ batches_of rest
  pub fault : first_fault lines ≡ first_fault rest

-- a log ends here, without a batch or a fault
pub record IsEnd (lines : Lines) : Type 0 where
  pub batches : batches_of lines ≡ []
  pub fault : first_fault lines ≡ None

-- a log has this first fault, and no batch is whole before it
pub record IsFault (lines : Lines) (fault : LogFault) : Type 0 where
  pub batches : batches_of lines ≡ []
  pub first : first_fault lines ≡ Some fault

-- how many calls a batch has, none where there is no batch
abbrev pub calls_in : Option (Vec requests.Call Global) → ℕ
calls_in None = 0
calls_in (Some calls) = length calls.items
