-- Of the code: invariants and steps; no promise rests on these words.
-- What a line does to a feed.
use Rattle.std.specs.Prelude.{◌≡◌, ◌+◌, List, [], ◌∷◌, ◌++◌, length, true, Ok, Err}
use Rattle.devices.specs.Lines.{next_number}
use Rattle.proclang_types.specs.Procedures.{ProcParts}
use Rattle.requests.specs.Requests as requests
use Rattle.batch_log.specs.declared.fault.LogFault.{LogFault}
use Rattle.batch_log.specs.declared.line.LogLine.TheVariants.{Call, Cut}
use Rattle.batch_log.specs.Lines.{line_said}
use Rattle.batch_log.specs.Log.{is_room, within}
use Rattle.batch_log.specs.Places.{Place}

-- the line is a call, and there is room for it
pub record AddsCall (procs : List ProcParts) (old new : Place) (call : requests.Call) : Type 0 where
  pub said : line_said procs old.line ≡ Ok (Call call)
  pub room : is_room old.retries (length old.calls) old.total ≡ true
  pub place : new ≡ record old
      { calls = old.calls ++ call ∷ []; total = old.total + 1; lines = next_number old.lines; line = [] }

-- the line is a cut, and these calls are the batch
pub record EndsBatch (procs : List ProcParts) (old new : Place) (calls : List requests.Call) : Type 0 where
  pub said : line_said procs old.line ≡ Ok Cut
  pub batch : calls ≡ old.calls
  pub place : new ≡ record old { calls = []; total = old.total; lines = next_number old.lines; line = [] }

-- the line has a fault
pub record BreaksRule (procs : List ProcParts) (old : Place) (fault : LogFault) : Type 0 where
  pub kind : within old.retries (length old.calls) old.total (line_said procs old.line) ≡ Err fault.kind
  pub line : fault.line ≡ next_number old.lines
