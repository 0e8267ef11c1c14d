-- Of the code: invariants and steps; no promise rests on these words.
-- The replies that are kept.
use Rattle.std.specs.Prelude.{⊤, List, [], ◌∷◌}
use Rattle.meaning.specs.declared.outcome.Outcome.{Outcome}
use Rattle.scheduler.specs.declared.slot.Slot.{Slot}
use Rattle.scheduler.specs.declared.slot.Slot.TheVariants.{Idle, Lent, Held, Ran, Settled}

-- the replies kept, where all are settled
abbrev pub replies_of : List Slot → List Outcome
replies_of [] = []
replies_of (Settled outcome ∷ slots) = outcome ∷ replies_of slots
replies_of (Idle ∷ slots) = replies_of slots
replies_of (Lent ∷ slots) = replies_of slots
replies_of (Held job ∷ slots) = replies_of slots
replies_of (Ran job outcome ∷ slots) = replies_of slots

abbrev pub IsSettled : Slot → Type 0
IsSettled Idle = ⊥
IsSettled Lent = ⊥
IsSettled (Held job) = ⊥
IsSettled (Ran job outcome) = ⊥
IsSettled (Settled outcome) = ⊤

abbrev pub AreSettled : List Slot → Type 0
AreSettled [] = ⊤
AreSettled (slot ∷ slots) = IsSettled slot × AreSettled slots
