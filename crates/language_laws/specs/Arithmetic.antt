-- Claimed: what contracts promise to a reader rests on these words.
-- What each arithmetic operation gives.
use Rattle.std.specs.Prelude.{◌≡◌, ◌↔◌, ◌⊎◌, ℤ, pos, ◌+ℤ◌, ◌-ℤ◌, ◌*ℤ◌, ◌≤ℤ◌, int_div, int_rem, Ok, Err}
use Rattle.proclang_types.specs.declared.operator.IntOperator.{IntOperator}
use Rattle.proclang_types.specs.declared.operator.IntOperator.TheVariants.{Add, Subtract, Multiply, Divide, Remainder}
use Rattle.footprint.specs.declared.abort_code.AbortCode.{AbortCode}
use Rattle.footprint.specs.declared.abort_code.AbortCode.TheVariants.{Overflow, DivisionByZero}
use Rattle.footprint.specs.Arithmetic.{result_of, IsDivision}

-- a number of the signed 64-bit range, from -2^63 to 2^63 - 1
abbrev pub IsInRange : ℤ → Type 0
IsInRange z = ((pos 0 -ℤ pos 9223372036854775808) ≤ℤ z) × (z ≤ℤ pos 9223372036854775807)

-- the operations that have a divisor
abbrev pub HasDivisor : IntOperator → Type 0
HasDivisor operator = (operator ≡ Divide) ⊎ (operator ≡ Remainder)

-- Each operation has the exact result where that is in the range. A quotient and a remainder are there together, where
-- the divisor isn't 0 and the quotient is in the range, and are those of a division that is rounded towards 0. Where
-- there is no result, that is for a divisor 0, or else because it would be outside the range.
pub record ComputesExactly : Type 0 where
  pub sums : (x y z : ℤ) → (result_of Add x y ≡ Ok z) ↔ ((z ≡ x +ℤ y) × IsInRange z)
  pub differences : (x y z : ℤ) → (result_of Subtract x y ≡ Ok z) ↔ ((z +ℤ y ≡ x) × IsInRange z)
  pub products : (x y z : ℤ) → (result_of Multiply x y ≡ Ok z) ↔ ((z ≡ x *ℤ y) × IsInRange z)
  pub quotients : (x y z : ℤ) → ¬ (y ≡ pos 0)
      → (result_of Divide x y ≡ Ok z) ↔ ((z ≡ int_div x y) × IsInRange z)
  pub remainders : (x y z : ℤ) → ¬ (y ≡ pos 0)
      → (result_of Remainder x y ≡ Ok z) ↔ ((z ≡ int_rem x y) × IsInRange (int_div x y))
  pub divisions : (x y quotient rest : ℤ) → result_of Divide x y ≡ Ok quotient → result_of Remainder x y ≡ Ok rest
      → IsDivision x y quotient rest
  pub by_zero : (operator : IntOperator) (x y : ℤ)
      → (result_of operator x y ≡ Err DivisionByZero) ↔ (HasDivisor operator × (y ≡ pos 0))
  pub otherwise : (operator : IntOperator) (x y : ℤ) (code : AbortCode) → result_of operator x y ≡ Err code
      → (code ≡ DivisionByZero) ⊎ (code ≡ Overflow)
