-- Claimed: what contracts promise to a reader rests on these words.
-- Lists with one item left out or changed, and what is read by going from place to place.
use Rattle.std.specs.Prelude.{ℕ, zero, suc, Bool, cond, eqb, List, [], ◌∷◌}

-- the list without x
abbrev pub without : ℕ → List ℕ → List ℕ
without x [] = []
without x (y ∷ ys) = cond (eqb y x) (without x ys) (y ∷ without x ys)

-- the list with its i-th item changed
abbrev pub changed : {X : Type 0} → List X → ℕ → (X → X) → List X
changed [] i f = []
changed (x ∷ xs) zero f = f x ∷ xs
changed (x ∷ xs) (suc i) f = x ∷ changed xs i f

-- the live places that one comes through from a on, at most n
abbrev pub follow : (ℕ → ℕ) → (ℕ → Bool) → ℕ → ℕ → List ℕ
follow onward live zero a = []
follow onward live (suc most) a = cond (live a) (a ∷ follow onward live most (onward a)) []
