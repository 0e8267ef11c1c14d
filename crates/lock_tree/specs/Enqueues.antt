-- Claimed: what contracts promise to a reader rests on these words.
-- A transaction that may come after all others.
use Rattle.std.specs.Prelude.{◌<◌, ℕ, List, [], ◌∷◌, ⊤}
use Rattle.lock_tree.specs.Locks.{Waiting}

-- each number is less
abbrev pub AreBelow : ℕ → List Waiting → Type 0
AreBelow number [] = ⊤
AreBelow number (w ∷ ws) = (w.no < number) × AreBelow number ws
