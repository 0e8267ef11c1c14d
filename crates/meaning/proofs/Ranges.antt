-- The numbers from one to another, place by place.
use Rattle.std.proofs.Common.{◌≡◌, ℕ, zero, suc, Bool, true, false, refl, sym, ap, ◌∙◌, Some, None, ℤ, pos, negsuc, ◌+ℤ◌, ◌-ℤ◌, ◌≤ℤ◌, arith}
use Rattle.std.specs.Prelude.{nat_lt, int_le, slice_get, if◌then◌else◌}
use borrow.Author.Differences.{le-true}
use borrow.Author.Tests.{ltb-true, lt-ltb}
use Rattle.std.specs.Cmp.{both_ways}
use Rattle.std.proofs.lemmas.Int.{ints}
use Rattle.std.proofs.lemmas.Bool.Decides.{nat_tests}
use Rattle.meaning.specs.Turns.{numbers_from, or_zero, numbers_between}

before_more : (k n : ℕ) → nat_lt k n ≡ nat_lt (suc k) (suc n)
before_more k n = both_ways _ _
    (λ t. let l = ltb-true k n t in lt-ltb (suc k) (suc n) (omega (arith, l)))
    (λ t. let l = ltb-true (suc k) (suc n) t in lt-ltb k n (omega (arith, l)))

none_before : (k : ℕ) → nat_lt k 0 ≡ false
none_before k = grind (arith, nat_tests)

at_place : (n k : ℕ) (first : ℤ) → slice_get (numbers_from n first) k ≡ (if nat_lt k n then Some (first +ℤ pos k) else None)
at_place zero k first = ap (λ (b : Bool). if b then Some (first +ℤ pos k) else None) (sym (none_before k))
at_place (suc n) zero first =
    let e : first ≡ first +ℤ pos 0 = omega (arith, ints) in
    ap (λ (z : ℤ). Some z) e ∙ ap (λ (b : Bool). if b then Some (first +ℤ pos 0) else None) (sym (lt-ltb 0 (suc n) (omega arith)))
at_place (suc n) (suc k) first =
    let e : (first +ℤ pos 1) +ℤ pos k ≡ first +ℤ pos (suc k) = omega (arith, ints) in
    at_place n k (first +ℤ pos 1)
    ∙ ap (λ (z : ℤ). if nat_lt k n then Some z else None) e
    ∙ ap (λ (b : Bool). if b then Some (first +ℤ pos (suc k)) else None) (before_more k n)

le_test : (a b : ℤ) → a ≤ℤ b → int_le a b ≡ true
le_test a b h = grind (arith, ints, h)

below_count_is_at_most : (d low high : ℤ) (k : ℕ) → d ≡ (high +ℤ pos 1) -ℤ low → nat_lt k (or_zero d) ≡ int_le (low +ℤ pos k) high
below_count_is_at_most (pos n) low high k e = both_ways _ _
    (λ t. let l = ltb-true k n t in le_test (low +ℤ pos k) high (omega (arith, ints, l, e)))
    (λ t. let l = le-true (low +ℤ pos k) high t in lt-ltb k n (omega (arith, ints, l, e)))
below_count_is_at_most (negsuc n) low high k e = both_ways _ _
    (λ t. absurd (let l = ltb-true k 0 t in omega (arith, l)))
    (λ t. absurd (let l = le-true (low +ℤ pos k) high t in omega (arith, ints, l, e)))

pub numbers_at : (low high : ℤ) (k : ℕ) → slice_get (numbers_between low high) k ≡ (if int_le (low +ℤ pos k) high then Some (low +ℤ pos k) else None)
numbers_at low high k =
    at_place (or_zero ((high +ℤ pos 1) -ℤ low)) k low
    ∙ ap (λ (b : Bool). if b then Some (low +ℤ pos k) else None) (below_count_is_at_most ((high +ℤ pos 1) -ℤ low) low high k refl)
