-- Comparisons of numbers.
use Rattle.std.proofs.Common.{◌≡◌, ◌⊎◌, inl, inr, ℕ, suc, ◌+◌, ◌-◌, ℤ, pos, ◌+ℤ◌, int_lt, int_le, Bool, true, false, not, refl, arith}
use Rattle.std.specs.Ordering.{int_eq}
use Rattle.std.proofs.lemmas.Bool.Decides.{Decides-int_eq}
use Rattle.std.proofs.lemmas.Int.{ints}
use borrow.Author.Differences.{up, down}
use Rattle.language_laws.specs.Comparisons.{ComparesByOrder}

not_true : (b : Bool) → not b ≡ true → b ≡ true → ⊥
not_true true n y = absurd (cc)
not_true false n y = absurd (cc)

true_not : (b : Bool) → (b ≡ true → ⊥) → not b ≡ true
true_not true n = absurd (n refl)
true_not false n = refl

from_less : (x y : ℤ) → int_lt x y ≡ true → y ≡ x +ℤ pos (suc (up y + down x - (up x + down y) - 1))
from_less x y h = omega (arith, ints, h)

less_by : (x y : ℤ) → int_lt x y ≡ true → (n : ℕ) × (y ≡ x +ℤ pos (suc n))
less_by x y h = (up y + down x - (up x + down y) - 1, from_less x y h)

by_less : (x y : ℤ) → (n : ℕ) × (y ≡ x +ℤ pos (suc n)) → int_lt x y ≡ true
by_less x y (n, e) = by (int_lt x y) refl
  where
    by : (t : Bool) → int_lt x y ≡ t → t ≡ true
    by true is = refl
    by false is = absurd (omega (arith, ints, e, is))

never : (x : ℤ) → int_lt x x ≡ true → ⊥
never x h = omega (arith, ints, h)

equal : (x y : ℤ) → x ≡ y → int_eq x y ≡ true
equal x y e = (Decides-int_eq x y).1 e

from_equal : (x y : ℤ) → int_eq x y ≡ true → x ≡ y
from_equal x y h = (Decides-int_eq x y).0 h

at_most : (x y : ℤ) → int_le x y ≡ true → (int_lt x y ≡ true) ⊎ (int_eq x y ≡ true)
at_most x y h = by (int_lt x y) refl
  where
    same : int_lt x y ≡ false → x ≡ y
    same is = omega (arith, ints, h, is)

    by : (t : Bool) → int_lt x y ≡ t → (int_lt x y ≡ true) ⊎ (int_eq x y ≡ true)
    by true is = inl is
    by false is = inr (equal x y (same is))

by_at_most : (x y : ℤ) → (int_lt x y ≡ true) ⊎ (int_eq x y ≡ true) → int_le x y ≡ true
by_at_most x y (inl h) = by (int_le x y) refl
  where
    by : (t : Bool) → int_le x y ≡ t → t ≡ true
    by true is = refl
    by false is = absurd (omega (arith, ints, h, is))
by_at_most x y (inr h) = by (int_le x y) refl
  where
    same : x ≡ y
    same = from_equal x y h

    by : (t : Bool) → int_le x y ≡ t → t ≡ true
    by true is = refl
    by false is = absurd (omega (arith, ints, same, is))

pub by_order : ComparesByOrder
by_order = record {
  equal = Decides-int_eq;
  unequal = λ x y. (λ h e. not_true (int_eq x y) h ((Decides-int_eq x y).1 e), λ n. true_not (int_eq x y) (λ h. n ((Decides-int_eq x y).0 h)));
  less = λ x y. (less_by x y, by_less x y);
  irreflexive = never;
  at_most = λ x y. (at_most x y, by_at_most x y);
}
