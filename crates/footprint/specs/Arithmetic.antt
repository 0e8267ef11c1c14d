-- Claimed: what contracts promise to a reader rests on these words.
-- Operators on whole numbers in the signed 64-bit range.
use Rattle.std.specs.Prelude.{◌≡◌, ◌<◌, ℤ, pos, negsuc, ◌^◌, ◌+ℤ◌, ◌-ℤ◌, ◌*ℤ◌, ◌≤ℤ◌, int_div, int_rem, unsigned_abs, nat_lt, Result, Ok, Err, Bool, if◌then◌else◌}
use Rattle.std.specs.Ordering.{int_eq}
use Rattle.documents.specs.Reading.{◌>>=◌}
use Rattle.proclang_types.specs.declared.operator.IntOperator.{IntOperator}
use Rattle.proclang_types.specs.declared.operator.IntOperator.TheVariants.{Add, Subtract, Multiply, Divide, Remainder}
use Rattle.footprint.specs.declared.abort_code.AbortCode.{AbortCode}
use Rattle.footprint.specs.declared.abort_code.AbortCode.TheVariants.{Overflow, DivisionByZero}

-- whether a number is in the signed 64-bit range
abbrev pub is_int : ℤ → Bool
is_int (pos n) = nat_lt n (2 ^ 63)
is_int (negsuc n) = nat_lt n (2 ^ 63)

-- rule: abort.range
-- an exact result, or an abort where it is outside the range
abbrev pub in_range : ℤ → Result ℤ AbortCode
in_range z = if is_int z then Ok z else Err Overflow

-- rule: expression.quotient, abort.zero
-- what a divisor other than 0 gives
abbrev pub divided : ℤ → Result ℤ AbortCode → Result ℤ AbortCode
divided divisor result = if int_eq divisor (pos 0) then Err DivisionByZero else result

-- rule: expression.sum_of_two
-- The result of an operator. A quotient is rounded towards 0, and a remainder is there where its quotient is.
abbrev pub result_of : IntOperator → ℤ → ℤ → Result ℤ AbortCode
result_of Add x y = in_range (x +ℤ y)
result_of Subtract x y = in_range (x -ℤ y)
result_of Multiply x y = in_range (x *ℤ y)
result_of Divide x y = divided y (in_range (int_div x y))
result_of Remainder x y = divided y (in_range (int_div x y) >>= λ quotient. Ok (int_rem x y))

-- A quotient that is rounded towards 0, and what it leaves: together they make up the first operand, what is left is
-- less than the divisor, signs aside, and it is 0 or has the sign of the first operand.
pub record IsDivision (x y quotient rest : ℤ) : Type 0 where
  pub whole : (quotient *ℤ y) +ℤ rest ≡ x
  pub less : unsigned_abs rest < unsigned_abs y
  pub not_below : pos 0 ≤ℤ x → pos 0 ≤ℤ rest
  pub not_above : x ≤ℤ pos 0 → rest ≤ℤ pos 0
