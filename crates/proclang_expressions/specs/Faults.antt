-- Claimed: what contracts promise to a reader rests on these words.
-- The first fault, and where it is.
use Rattle.std.specs.Prelude.{◌≡◌, ℕ, List, Bool, true, false, Result, Err}
use Rattle.proclang_expressions.specs.declared.fault.FaultKind.{FaultKind}
use Rattle.proclang_expressions.specs.declared.fault.ProcFault.{ProcFault}
use Rattle.proclang_expressions.specs.declared.fault.ProcFault.TheVariants.{Memory, At}

-- the fault is that allocation failed
abbrev pub is_memory : ProcFault → Bool
is_memory Memory = true
is_memory (At kind path) = false

-- that kind at that path, unless memory ran out
abbrev pub IsFault : FaultKind → List ℕ → ProcFault → Type 0
IsFault kind path e = is_memory e ≡ false → e ≡ At kind path

-- the fault of this kind at this path
abbrev pub refuse : {A : Type 0} → FaultKind → List ℕ → Result A ProcFault
refuse kind path = Err (At kind path)
