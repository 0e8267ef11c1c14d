-- Quotients and remainders.
use Rattle.std.proofs.Common.{refl, ◌≡◌, zero, suc, ◌<◌, ℤ, pos, negsuc, ◌≤ℤ◌, arith, int_rem, int_div}
use Rattle.std.specs.Prelude.{unsigned_abs}
use Rattle.std.proofs.lemmas.Int.{ints, quot-rem, rem_below}
use Rattle.footprint.specs.Arithmetic.{IsDivision}

above : (y : ℤ) → ¬ (y ≡ pos 0) → 0 < unsigned_abs y
above (pos zero) n = absurd (n refl)
above (pos (suc k)) n = omega arith
above (negsuc k) n = omega arith

rest_not_below : (x y : ℤ) → pos 0 ≤ℤ x → pos 0 ≤ℤ int_rem x y
rest_not_below (pos a) (pos b) h = omega (arith, ints)
rest_not_below (pos a) (negsuc b) h = omega (arith, ints)
rest_not_below (negsuc a) y h = absurd (omega (arith, ints, h))

rest_not_above : (x y : ℤ) → x ≤ℤ pos 0 → int_rem x y ≤ℤ pos 0
rest_not_above (pos zero) (pos b) h = omega (arith, ints)
rest_not_above (pos zero) (negsuc b) h = omega (arith, ints)
rest_not_above (pos (suc a)) y h = absurd (omega (arith, ints, h))
rest_not_above (negsuc a) (pos b) h = omega (arith, ints)
rest_not_above (negsuc a) (negsuc b) h = omega (arith, ints)

pub division : (x y : ℤ) → ¬ (y ≡ pos 0) → IsDivision x y (int_div x y) (int_rem x y)
division x y n = record {
  whole = quot-rem x y;
  less = rem_below x y (above y n);
  not_below = rest_not_below x y;
  not_above = rest_not_above x y;
}
