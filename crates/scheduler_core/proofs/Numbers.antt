-- The number of a transaction, and its place.
use Rattle.std.proofs.Common.{◌≡◌, ℕ, ◌+◌, ◌-◌, ◌<◌, ◌≤◌, ◌==◌, nat_lt, true, false, cond, List, None, Some, refl, ◌∙◌, ap, arith, slice_get, slice_set}
use Rattle.std.proofs.lemmas.Bool.Decides.{nat_tests}
use Rattle.scheduler_core.specs.Phases.{at_number, with_number}
use Rattle.scheduler_core.proofs.Lists.{none_some}

pub same_number : (k : ℕ) → (k == k) ≡ true
same_number k = grind (arith, nat_tests)

pub first_place : (first : ℕ) → (first == first + 0) ≡ true
first_place first = grind (arith, nat_tests)

pub numbers_same : (i k : ℕ) → (i == k) ≡ true → i ≡ k
numbers_same i k h = grind (arith, nat_tests)

pub lesser_number : (i k : ℕ) → i < k → (i == k) ≡ false
lesser_number i k h = grind (arith, nat_tests)

pub greater_number : (i k : ℕ) → k < i → (i == k) ≡ false
greater_number i k h = grind (arith, nat_tests)

not_below : (first place : ℕ) → nat_lt (first + place) first ≡ false
not_below first place = grind (arith, nat_tests)

above_first : (first number : ℕ) → nat_lt number first ≡ false → first ≤ number
above_first first number h = grind (arith, nat_tests)

place_back : (first place : ℕ) → (first + place) - first ≡ place
place_back first place = omega arith

module _ {X : Type 0} (first : ℕ) (xs : List X) where
  pub at_place : (place : ℕ) → at_number first xs (first + place) ≡ slice_get xs place
  at_place place =
      ap (λ b. cond b None (slice_get xs ((first + place) - first))) (not_below first place) ∙ ap (slice_get xs) (place_back first place)

  pub with_place : (place : ℕ) (x : X) → with_number first xs (first + place) x ≡ slice_set xs place x
  with_place place x =
      ap (λ b. cond b xs (slice_set xs ((first + place) - first) x)) (not_below first place) ∙ ap (λ (w : ℕ). slice_set xs w x) (place_back first place)

  -- what has a number has a place
  pub placed : (number : ℕ) (x : X) → at_number first xs number ≡ Some x → (place : ℕ) × (number ≡ first + place) × (slice_get xs place ≡ Some x)
  placed number x = elim (nat_lt number first) as (λ v. nat_lt number first ≡ v → cond v None (slice_get xs (number - first)) ≡ Some x → (place : ℕ) × (number ≡ first + place) × (slice_get xs place ≡ Some x)) [
    | true ↦ λ below is. absurd (none_some x is)
    | false ↦ λ above is. (number - first, (let le = above_first first number above in omega (arith, le)), is)
  ] refl
