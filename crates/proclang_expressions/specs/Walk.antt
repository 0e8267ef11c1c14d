-- Claimed: what contracts promise to a reader rests on these words.
-- Parts that are read one after another.
use Rattle.std.specs.Prelude.{ℕ, ◌+◌, List, [], ◌∷◌, ◌++◌, length, nat_le, Result, Ok, ⊤}
use Rattle.documents.specs.Reading.{◌>>=◌, rule}
use Rattle.proclang_expressions.specs.declared.fault.FaultKind.TheVariants.{Limit}
use Rattle.proclang_expressions.specs.declared.fault.ProcFault.{ProcFault}
use Rattle.proclang_expressions.specs.declared.fault.ProcFault.TheVariants.{At}

-- each part at its place, the first at the place that is given, with what the parts before it gave
abbrev pub each_from : {S D F : Type 0} → (List ℕ → S → D → Result S F) → List ℕ → ℕ → S → List D → Result S F
each_from one path place before [] = Ok before
each_from one path place before (d ∷ ds) = do
  so_far ← one (path ++ place ∷ []) before d
  each_from one path (place + 1) so_far ds

-- what was read before, and one more after it
abbrev pub appended : {X F : Type 0} → List X → Result X F → Result (List X) F
appended before read = read >>= λ x. Ok (before ++ x ∷ [])

-- no more parts than a most
abbrev pub at_most : {D : Type 0} → List ℕ → ℕ → List D → Result ⊤ ProcFault
at_most path most ds = rule (nat_le (length ds) most) (At Limit path)
