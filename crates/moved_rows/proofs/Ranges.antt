-- What arithmetic and loops give of numbers in the signed 64-bit range is in that range.
use Rattle.std.proofs.Common.{◌≡◌, ◌≤◌, ◌<◌, ℕ, zero, suc, ℤ, pos, negsuc, ◌+ℤ◌, ◌-ℤ◌, ◌*ℤ◌, ◌≤ℤ◌, int_div, int_rem, unsigned_abs, Bool, true, false, cond, Result, Ok, Err, refl, sym, ◌∙◌, arith}
use Rattle.std.specs.Prelude.{⊤}
use Rattle.std.specs.List.{AllByRecursion}
use Rattle.std.specs.Ordering.{int_eq}
use Rattle.std.proofs.lemmas.Bool.Decides.{Decides-int_eq, nat_tests}
use Rattle.std.proofs.lemmas.Int.{ints, rem_below}
use Rattle.documents.specs.Reading.{◌>>=◌}
use Rattle.proclang_types.specs.declared.operator.IntOperator.{IntOperator}
use Rattle.proclang_types.specs.declared.operator.IntOperator.TheVariants.{Add, Subtract, Multiply, Divide, Remainder}
use Rattle.footprint.specs.declared.abort_code.AbortCode.{AbortCode}
use Rattle.footprint.specs.declared.abort_code.AbortCode.TheVariants.{Overflow, DivisionByZero}
use Rattle.footprint.specs.Arithmetic.{is_int, in_range, divided, result_of}
use Rattle.meaning.specs.Turns.{numbers_from, or_zero, numbers_between}

-- a number in range
pub record IsInt (z : ℤ) : Type 0 where
  pub is : is_int z ≡ true

abbrev IsBetween : ℤ → Type 0
IsBetween z = ((pos 0 -ℤ pos 9223372036854775808) ≤ℤ z) × (z ≤ℤ pos 9223372036854775807)

in_bounds : (z : ℤ) → is_int z ≡ true → IsBetween z
in_bounds (pos n) h = (omega (arith, ints), grind (arith, nat_tests, ints, h))
in_bounds (negsuc n) h = (grind (arith, nat_tests, ints, h), omega (arith, ints))

by_bounds : (z : ℤ) → IsBetween z → is_int z ≡ true
by_bounds (pos n) r = let h : n < 9223372036854775808 = omega (arith, ints, r.1) in grind (arith, nat_tests, h)
by_bounds (negsuc n) r = let h : n < 9223372036854775808 = omega (arith, ints, r.0) in grind (arith, nat_tests, h)

-- ---- results

-- a result, where there is one, is in range
abbrev pub GivesInt : Result ℤ AbortCode → Type 0
GivesInt (Ok z) = IsInt z
GivesInt (Err code) = ⊤

range_gives : (z : ℤ) → GivesInt (in_range z)
range_gives z = by (is_int z) refl
  where
    by : (b : Bool) → is_int z ≡ b → GivesInt (cond b (Ok z) (Err Overflow))
    by true e = record { is = e }
    by false e = tt

divided_gives : (y : ℤ) (r : Result ℤ AbortCode) → ((y ≡ pos 0 → ⊥) → GivesInt r) → GivesInt (divided y r)
divided_gives y r h = by (int_eq y (pos 0)) refl
  where
    by : (b : Bool) → int_eq y (pos 0) ≡ b → GivesInt (cond b (Err DivisionByZero) r)
    by true e = tt
    by false e = h (λ same. let no : true ≡ false = sym ((Decides-int_eq y (pos 0)).1 same) ∙ e in absurd cc)

at_least_one : (y : ℤ) → (y ≡ pos 0 → ⊥) → 0 < unsigned_abs y
at_least_one (pos zero) h = absurd (h refl)
at_least_one (pos (suc n)) h = omega arith
at_least_one (negsuc n) h = omega arith

abs_most : (y : ℤ) → is_int y ≡ true → unsigned_abs y ≤ 9223372036854775808
abs_most (pos n) h = grind (arith, nat_tests, h)
abs_most (negsuc n) h = grind (arith, nat_tests, h)

abs_below : (z : ℤ) → unsigned_abs z < 9223372036854775808 → is_int z ≡ true
abs_below (pos n) h = grind (arith, nat_tests, h)
abs_below (negsuc n) h = let less : n < 9223372036854775808 = omega (arith, h) in grind (arith, nat_tests, less)

rest_is_int : (x y : ℤ) → (y ≡ pos 0 → ⊥) → is_int y ≡ true → is_int (int_rem x y) ≡ true
rest_is_int x y h k =
    let less = rem_below x y (at_least_one y h) in
    let most = abs_most y k in
    abs_below (int_rem x y) (omega (arith, less, most))

rest_gives : (rest : ℤ) (quotient : Result ℤ AbortCode) → is_int rest ≡ true → GivesInt (quotient >>= λ q. Ok rest)
rest_gives rest (Ok q) h = record { is = h }
rest_gives rest (Err code) h = tt

pub result_gives : (op : IntOperator) (x y : ℤ) → IsInt x → IsInt y → GivesInt (result_of op x y)
result_gives Add x y h k = range_gives (x +ℤ y)
result_gives Subtract x y h k = range_gives (x -ℤ y)
result_gives Multiply x y h k = range_gives (x *ℤ y)
result_gives Divide x y h k = divided_gives y (in_range (int_div x y)) (λ some. range_gives (int_div x y))
result_gives Remainder x y h k = divided_gives y _ (λ some. rest_gives (int_rem x y) (in_range (int_div x y)) (rest_is_int x y some k.is))

-- ---- loops

from_gives : (count : ℕ) (first high : ℤ) → ((pos 0 -ℤ pos 9223372036854775808) ≤ℤ first) → (high ≤ℤ pos 9223372036854775807) → ((first +ℤ pos count) ≤ℤ (high +ℤ pos 1)) → AllByRecursion IsInt (numbers_from count first)
from_gives zero first high low most all = tt
from_gives (suc count) first high low most all = (
  record { is = by_bounds first (low, omega (arith, ints, most, all)) },
  from_gives count (first +ℤ pos 1) high (omega (arith, ints, low)) most (omega (arith, ints, all)),
)

pub between_gives : (low high : ℤ) → IsInt low → IsInt high → AllByRecursion IsInt (numbers_between low high)
between_gives low high h k = by ((high +ℤ pos 1) -ℤ low) refl
  where
    by : (count : ℤ) → (high +ℤ pos 1) -ℤ low ≡ count → AllByRecursion IsInt (numbers_from (or_zero count) low)
    by (pos n) e = from_gives n low high (in_bounds low h.is).0 (in_bounds high k.is).1 (omega (arith, ints, e))
    by (negsuc n) e = tt
