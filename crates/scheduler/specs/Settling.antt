-- Claimed: what contracts promise to a reader rests on these words.
-- Settling what was played.
use Rattle.std.specs.Prelude.{ℕ, zero, suc, List, [], ◌∷◌}
use Rattle.scheduler_core.specs.declared.phase.Phase.{Phase}
use Rattle.scheduler_core.specs.declared.phase.Phase.TheVariants.{Idle, Out, Ran, Settled}

-- what was run is settled, and what was only lent is taken back
abbrev pub after_settling : Phase → Phase
after_settling Idle = Idle
after_settling Out = Idle
after_settling Ran = Settled
after_settling Settled = Settled

-- at one place
abbrev pub settled_at : ℕ → List Phase → List Phase
settled_at place [] = []
settled_at zero (p ∷ phases) = after_settling p ∷ phases
settled_at (suc place) (p ∷ phases) = p ∷ settled_at place phases
