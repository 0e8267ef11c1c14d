-- Claimed: what contracts promise to a reader rests on these words.
-- The faults of lists of parts, in order.
use Rattle.std.specs.Prelude.{ℕ, ◌+◌, nat_le, List, [], ◌∷◌, ◌++◌, length}
use Rattle.documents.specs.FirstFault.{broken}
use Rattle.proclang_expressions.specs.declared.fault.FaultKind.TheVariants.{Limit}
use Rattle.proclang_expressions.specs.declared.fault.ProcFault.{ProcFault}
use Rattle.proclang_expressions.specs.declared.fault.ProcFault.TheVariants.{At}

-- those of each part in turn, the first at the place that is given
abbrev pub in_parts : {D : Type 0} → (List ℕ → D → List ProcFault) → List ℕ → ℕ → List D → List ProcFault
in_parts one path place [] = []
in_parts one path place (d ∷ ds) = one (path ++ place ∷ []) d ++ in_parts one path (place + 1) ds

-- there are more parts than there may be
abbrev pub too_many : {D : Type 0} → List ℕ → ℕ → List D → List ProcFault
too_many path most ds = broken (nat_le (length ds) most) (At Limit path)
