-- Claimed: what contracts promise to a reader rests on these words.
-- What the definition of a log's batches amounts to.
use Rattle.std.specs.Prelude.{◌≡◌, ℕ, ◌<◌, List, [], ◌∷◌, ◌++◌, map, length, Some, None, Ok, Err}
use Rattle.requests.specs.Requests as requests
use Rattle.batch_log.specs.declared.fault.LogFaultKind.{LogFaultKind}
use Rattle.batch_log.specs.declared.line.LogLine.{LogLine}
use Rattle.batch_log.specs.declared.line.LogLine.TheVariants.{Call, Cut}
use Rattle.batch_log.specs.Lines.{Lines}
use Rattle.batch_log.specs.Log.{batches_of, first_fault}

-- batches written down, each with a cut after it
abbrev pub with_cuts : List (List requests.Call) → List LogLine
with_cuts [] = []
with_cuts (calls ∷ batches) = map Call calls ++ Cut ∷ with_cuts batches

-- the lines say this, and have no fault
abbrev pub Say : Lines → List LogLine → Type 0
Say lines said = map (λ line. line.1) lines ≡ map Ok said

-- batches with a cut after each are read back
abbrev pub BatchesAreReadBack : Type 0
BatchesAreReadBack = (batches : List (List requests.Call)) (lines : Lines) → Say lines (with_cuts batches) →
    (batches_of lines ≡ batches) × (first_fault lines ≡ None)

-- calls after the last cut are a batch, too, where the log ends with them
abbrev pub EndIsACut : Type 0
EndIsACut = (batches : List (List requests.Call)) (calls : List requests.Call) (lines : Lines) → 0 < length calls →
    Say lines (with_cuts batches ++ map Call calls) → (batches_of lines ≡ batches ++ calls ∷ [])
    × (first_fault lines ≡ None)

-- and are none, where a fault comes after them, whatever comes after it
abbrev pub FaultIsNoCut : Type 0
FaultIsNoCut = (batches : List (List requests.Call)) (calls : List requests.Call) (lines : Lines) (n : ℕ)
    (kind : LogFaultKind) (after : Lines) →
    Say lines (with_cuts batches ++ map Call calls) →
    (batches_of (lines ++ (n, Err kind) ∷ after) ≡ batches)
    × (first_fault (lines ++ (n, Err kind) ∷ after) ≡ Some (record { kind = kind; line = n }))
