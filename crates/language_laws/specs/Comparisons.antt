-- Claimed: what contracts promise to a reader rests on these words.
-- What each comparison says.
use Rattle.std.specs.Prelude.{◌≡◌, ◌↔◌, ◌⊎◌, ℕ, ℤ, pos, suc, ◌+ℤ◌, true, List}
use Rattle.proclang_types.specs.declared.operator.Comparison.TheVariants as ints
use Rattle.proclang_types.specs.declared.operator.Equality.TheVariants as texts
use Rattle.meaning.specs.Comparing.{compare, compare_bytes}

-- what each comparison of numbers says
pub record ComparesByOrder : Type 0 where
  pub equal : (x y : ℤ) → (compare ints.Equal x y ≡ true) ↔ (x ≡ y)
  pub unequal : (x y : ℤ) → (compare ints.Unequal x y ≡ true) ↔ ¬ (x ≡ y)
  pub less : (x y : ℤ) → (compare ints.Less x y ≡ true) ↔ ((n : ℕ) × (y ≡ x +ℤ pos (suc n)))
  pub irreflexive : (x : ℤ) → ¬ (compare ints.Less x x ≡ true)
  pub at_most : (x y : ℤ)
      → (compare ints.AtMost x y ≡ true) ↔ ((compare ints.Less x y ≡ true) ⊎ (compare ints.Equal x y ≡ true))

-- what each comparison of texts says
pub record ComparesByBytes : Type 0 where
  pub equal : (s t : List ℕ) → (compare_bytes texts.Equal s t ≡ true) ↔ (s ≡ t)
  pub unequal : (s t : List ℕ) → (compare_bytes texts.Unequal s t ≡ true) ↔ ¬ (s ≡ t)
