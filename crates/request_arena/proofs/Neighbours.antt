-- The first place of a walk, and the place after one of it.
use Rattle.std.proofs.Common.{◌≡◌, ℕ, zero, suc, ◌<◌, ◌≤◌, Bool, true, List, [], ◌∷◌, Some, None, slice_get, refl, sym, ◌∙◌, ap, subst, arith}
use Rattle.request_arena.specs.Walks.{Walk}
use Rattle.request_arena.proofs.Changed.{none_some, some_same}

-- live places are below c, and what a walk ends at is not
module _ (onward : ℕ → ℕ) (on : ℕ → Bool) (c : ℕ) (low : (x : ℕ) → on x ≡ true → x < c) (t : ℕ) (far : c ≤ t) where
  -- what a list begins with, where a walk along it begins at a
  abbrev BeginsAt : ℕ → List ℕ → Type 0
  BeginsAt a xs = (a < c → slice_get xs 0 ≡ Some a) × (c ≤ a → slice_get xs 0 ≡ None)

  pub first_of_walk : (xs : List ℕ) (a : ℕ) → Walk onward on a xs t → BeginsAt a xs
  first_of_walk [] a w = (λ less. absurd (omega (arith, less, far, w.0)), λ more. refl)
  first_of_walk (x ∷ xs) a w = (λ less. ap Some (sym w.0), λ more. absurd (omega (arith, more, low a w.1)))

  pub next_of_walk : (xs : List ℕ) (a i y : ℕ) → Walk onward on a xs t → slice_get xs i ≡ Some y
      → (onward y < c → slice_get xs (suc i) ≡ Some (onward y)) × (c ≤ onward y → slice_get xs (suc i) ≡ None)
  next_of_walk [] a i y w is = absurd (none_some y is)
  next_of_walk (x ∷ xs) a zero y w is = subst (λ b. BeginsAt (onward b) xs) (w.0 ∙ some_same x y is) (first_of_walk xs (onward a) w.2)
  next_of_walk (x ∷ xs) a (suc i) y w is = next_of_walk xs (onward a) i y w.2 is
