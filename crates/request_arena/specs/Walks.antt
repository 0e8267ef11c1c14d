-- Of the code: invariants and steps; no promise rests on these words.
-- What links lead through, and rings of places.
use Rattle.std.specs.Prelude.{◌≡◌, ℕ, ◌<◌, ◌≤◌, ◌⊎◌, Bool, true, false, List, [], ◌∷◌}

-- one comes from a through these places, all live, to the place `end`, which is not live
abbrev pub Walk : (ℕ → ℕ) → (ℕ → Bool) → ℕ → List ℕ → ℕ → Type 0
Walk onward live a [] end = (a ≡ end) × (live a ≡ false)
Walk onward live a (x ∷ xs) end = (a ≡ x) × (live a ≡ true) × Walk onward live (onward a) xs end

-- places below `nodes` are nodes, and those from there up to `all` are heads of queues. A head is linked, and a node
-- where it is live
abbrev pub Used : ℕ → ℕ → (ℕ → Bool) → ℕ → Type 0
Used nodes all live x = (live x ≡ true) ⊎ ((nodes ≤ x) × (x < all))

-- from a linked place one link leads to a linked place, and the other link leads back
abbrev pub Undo : ℕ → ℕ → (ℕ → ℕ) → (ℕ → ℕ) → (ℕ → Bool) → Type 0
Undo nodes all there back live = (x : ℕ) → Used nodes all live x → Used nodes all live (there x) × (back (there x) ≡ x)

-- each queue is a ring of its head and live nodes
pub record IsRing (nodes all : ℕ) (next prev : ℕ → ℕ) (live : ℕ → Bool) : Type 0 where
  pub low : (x : ℕ) → live x ≡ true → x < nodes
  pub onward : Undo nodes all next prev live
  pub back : Undo nodes all prev next live
  -- from a head one comes back to it, and from a live node to some head
  pub rings : (h : ℕ) → nodes ≤ h → h < all → (xs : List ℕ) × Walk next live (next h) xs h
  pub ends : (x : ℕ) → live x ≡ true → (xs : List ℕ) × ((h : ℕ) × ((nodes ≤ h) × Walk next live x xs h))
