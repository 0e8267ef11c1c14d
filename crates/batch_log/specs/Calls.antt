-- Claimed: what contracts promise to a reader rests on these words.
-- A line as the next call of a log.
use Rattle.std.specs.Prelude.{ℕ, ◌+◌, List, [], ◌∷◌, ◌++◌, length, Result, Ok, Err, if◌then◌else◌, ⊤}
use Rattle.devices.specs.Lines.{has_newline, next_number}
use Rattle.proclang_types.specs.Procedures.{ProcParts}
use Rattle.requests.specs.Requests as requests
use Rattle.batch_log.specs.declared.fault.LogFaultKind.{LogFaultKind}
use Rattle.batch_log.specs.declared.fault.LogFaultKind.TheVariants.{Shape}
use Rattle.batch_log.specs.declared.line.LogLine.{LogLine}
use Rattle.batch_log.specs.declared.line.LogLine.TheVariants.{Call, Cut}
use Rattle.batch_log.specs.Lines.{line_said}
use Rattle.batch_log.specs.Log.{within}
use Rattle.batch_log.specs.Places.{Place}

-- the call that is said; a cut is no call
abbrev pub call_in : Result LogLine LogFaultKind → Result requests.Call LogFaultKind
call_in (Ok (Call call)) = Ok call
call_in (Ok Cut) = Err Shape
call_in (Err kind) = Err kind

-- what a line says as the next call at a place: the call, or the first rule that it breaks. More than one line is no
-- call
abbrev pub next_call : List ProcParts → Place → List ℕ → Result requests.Call LogFaultKind
next_call procs place line =
    if has_newline line then Err Shape
    else call_in (within place.retries (length place.calls) place.total (line_said procs line))

-- the same without the call
abbrev pub is_call : Result requests.Call LogFaultKind → Result ⊤ LogFaultKind
is_call (Ok call) = Ok tt
is_call (Err kind) = Err kind

-- the place after a line that is a call
abbrev pub with_call : Place → requests.Call → Place
with_call place call =
    record place { calls = place.calls ++ call ∷ []; total = place.total + 1; lines = next_number place.lines }
