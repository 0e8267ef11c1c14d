-- Results of arithmetic operations.
use Rattle.std.proofs.Common.{◌≡◌, ◌↔◌, ◌⊎◌, inl, inr, ◌<◌, ℤ, pos, negsuc, ◌+ℤ◌, ◌-ℤ◌, ◌*ℤ◌, int_div, int_rem, cond, Bool, true, false, refl, sym, ap, subst, ◌∙◌, arith, Result, Ok, Err}
use Rattle.std.specs.Ordering.{int_eq}
use Rattle.std.proofs.lemmas.Bool.Decides.{Decides-int_eq, nat_tests}
use Rattle.std.proofs.lemmas.Int.{ints}
use Rattle.proclang_types.specs.declared.operator.IntOperator.{IntOperator}
use Rattle.proclang_types.specs.declared.operator.IntOperator.TheVariants.{Add, Subtract, Multiply, Divide, Remainder}
use Rattle.documents.specs.Reading.{◌>>=◌}
use Rattle.footprint.specs.declared.abort_code.AbortCode.{AbortCode}
use Rattle.footprint.specs.declared.abort_code.AbortCode.TheVariants.{Overflow, DivisionByZero}
use Rattle.footprint.specs.Arithmetic.{is_int, in_range, result_of, IsDivision}
use Rattle.footprint.proofs.Divisions.{division}
use Rattle.language_laws.specs.Arithmetic.{IsInRange, HasDivisor, ComputesExactly}

-- ---- the range

in_bounds : (z : ℤ) → is_int z ≡ true → IsInRange z
in_bounds (pos n) h = (omega (arith, ints), grind (arith, nat_tests, ints, h))
in_bounds (negsuc n) h = (grind (arith, nat_tests, ints, h), omega (arith, ints))

by_bounds : (z : ℤ) → IsInRange z → is_int z ≡ true
by_bounds (pos n) r = let h : n < 9223372036854775808 = omega (arith, ints, r.1) in grind (arith, nat_tests, h)
by_bounds (negsuc n) r = let h : n < 9223372036854775808 = omega (arith, ints, r.0) in grind (arith, nat_tests, h)

abbrev kept_as : ℤ → Result ℤ AbortCode
kept_as z = Ok z

-- a number that is kept, or Overflow
is_kept : (exact z : ℤ) (b : Bool) → is_int exact ≡ b → cond b (Ok exact) (Err Overflow) ≡ kept_as z → (z ≡ exact) × IsInRange z
is_kept exact z true is h =
    let same : z ≡ exact = cc in
    (same, subst IsInRange (sym same) (in_bounds exact is))
is_kept exact z false is h = absurd (cc)

kept : (exact z : ℤ) → (in_range exact ≡ Ok z) ↔ ((z ≡ exact) × IsInRange z)
kept exact z = (is_kept exact z (is_int exact) refl, back)
  where
    back : (z ≡ exact) × IsInRange z → in_range exact ≡ Ok z
    back (same, r) = ap (λ b. cond b (Ok exact) (Err Overflow)) (by_bounds exact (subst IsInRange same r)) ∙ ap Ok (sym same)

difference : (x y z : ℤ) → (z ≡ x -ℤ y) → z +ℤ y ≡ x
difference x y z e = omega (arith, ints, e)

difference_back : (x y z : ℤ) → z +ℤ y ≡ x → z ≡ x -ℤ y
difference_back x y z e = omega (arith, ints, e)

-- ---- divisions

not_zero : (y : ℤ) → ¬ (y ≡ pos 0) → int_eq y (pos 0) ≡ false
not_zero y n = by (int_eq y (pos 0)) refl
  where
    by : (b : Bool) → int_eq y (pos 0) ≡ b → b ≡ false
    by true is = absurd (n ((Decides-int_eq y (pos 0)).0 is))
    by false is = refl

quotient_is : (x y : ℤ) → ¬ (y ≡ pos 0) → result_of Divide x y ≡ in_range (int_div x y)
quotient_is x y n = ap (λ b. cond b (Err DivisionByZero) (in_range (int_div x y))) (not_zero y n)

abbrev rest_of : ℤ → ℤ → Bool → Result ℤ AbortCode
rest_of quotient rest b = cond b (Ok quotient) (Err Overflow) >>= λ q. Ok rest

rest_is : (x y : ℤ) → ¬ (y ≡ pos 0) → result_of Remainder x y ≡ rest_of (int_div x y) (int_rem x y) (is_int (int_div x y))
rest_is x y n = ap (λ b. cond b (Err DivisionByZero) (rest_of (int_div x y) (int_rem x y) (is_int (int_div x y)))) (not_zero y n)

rest_kept : (quotient rest z : ℤ) (b : Bool) → is_int quotient ≡ b → rest_of quotient rest b ≡ Ok z → (z ≡ rest) × IsInRange quotient
rest_kept quotient rest z true is h = let same : z ≡ rest = cc in (same, in_bounds quotient is)
rest_kept quotient rest z false is h = absurd (cc)

quotients : (x y z : ℤ) → ¬ (y ≡ pos 0) → (result_of Divide x y ≡ Ok z) ↔ ((z ≡ int_div x y) × IsInRange z)
quotients x y z n = (λ h. (kept (int_div x y) z).0 (sym (quotient_is x y n) ∙ h), λ h. quotient_is x y n ∙ (kept (int_div x y) z).1 h)

remainders : (x y z : ℤ) → ¬ (y ≡ pos 0) → (result_of Remainder x y ≡ Ok z) ↔ ((z ≡ int_rem x y) × IsInRange (int_div x y))
remainders x y z n = (λ h. rest_kept (int_div x y) (int_rem x y) z (is_int (int_div x y)) refl (sym (rest_is x y n) ∙ h), back)
  where
    back : (z ≡ int_rem x y) × IsInRange (int_div x y) → result_of Remainder x y ≡ Ok z
    back (same, r) = rest_is x y n ∙ ap (rest_of (int_div x y) (int_rem x y)) (by_bounds (int_div x y) r) ∙ ap Ok (sym same)

by_zero_none : (operator : IntOperator) (x z : ℤ) → HasDivisor operator → result_of operator x (pos 0) ≡ Err DivisionByZero
by_zero_none Divide x z h = refl
by_zero_none Remainder x z h = refl
by_zero_none Add x z (inl e) = absurd (cc)
by_zero_none Add x z (inr e) = absurd (cc)
by_zero_none Subtract x z (inl e) = absurd (cc)
by_zero_none Subtract x z (inr e) = absurd (cc)
by_zero_none Multiply x z (inl e) = absurd (cc)
by_zero_none Multiply x z (inr e) = absurd (cc)

never_by_zero : (z : ℤ) (b : Bool) → cond b (Ok z) (Err Overflow) ≡ Err DivisionByZero → ⊥
never_by_zero z true h = absurd (cc)
never_by_zero z false h = absurd (cc)

rest_never : (quotient rest : ℤ) (b : Bool) → rest_of quotient rest b ≡ Err DivisionByZero → ⊥
rest_never quotient rest true h = absurd (cc)
rest_never quotient rest false h = absurd (cc)

zero_or_not : {P : Type 0} (y : ℤ) → ((y ≡ pos 0) → P) → (¬ (y ≡ pos 0) → P) → P
zero_or_not {P} y f g = by (int_eq y (pos 0)) refl
  where
    by : (b : Bool) → int_eq y (pos 0) ≡ b → P
    by true is = f ((Decides-int_eq y (pos 0)).0 is)
    by false is = g (λ e. false_true ((Decides-int_eq y (pos 0)).1 e) is)
      where
        false_true : int_eq y (pos 0) ≡ true → int_eq y (pos 0) ≡ false → ⊥
        false_true a b = absurd (cc)

by_zero : (operator : IntOperator) (x y : ℤ) → result_of operator x y ≡ Err DivisionByZero → HasDivisor operator × (y ≡ pos 0)
by_zero Add x y h = absurd (never_by_zero (x +ℤ y) (is_int (x +ℤ y)) h)
by_zero Subtract x y h = absurd (never_by_zero (x -ℤ y) (is_int (x -ℤ y)) h)
by_zero Multiply x y h = absurd (never_by_zero (x *ℤ y) (is_int (x *ℤ y)) h)
by_zero Divide x y h = zero_or_not y (λ z. (inl refl, z)) (λ n. absurd (never_by_zero (int_div x y) (is_int (int_div x y)) (sym (quotient_is x y n) ∙ h)))
by_zero Remainder x y h = zero_or_not y (λ z. (inr refl, z)) (λ n. absurd (rest_never (int_div x y) (int_rem x y) (is_int (int_div x y)) (sym (rest_is x y n) ∙ h)))

back_by_zero : (operator : IntOperator) (x y : ℤ) → HasDivisor operator × (y ≡ pos 0) → result_of operator x y ≡ Err DivisionByZero
back_by_zero operator x y (has, zero_is) = ap (result_of operator x) zero_is ∙ by_zero_none operator x x has

kept_or_over : (z : ℤ) (code : AbortCode) (b : Bool) → cond b (Ok z) (Err Overflow) ≡ Err code → (code ≡ DivisionByZero) ⊎ (code ≡ Overflow)
kept_or_over z code true h = absurd (cc)
kept_or_over z code false h = inr (cc)

rest_or_over : (quotient rest : ℤ) (code : AbortCode) (b : Bool) → rest_of quotient rest b ≡ Err code → (code ≡ DivisionByZero) ⊎ (code ≡ Overflow)
rest_or_over quotient rest code true h = absurd (cc)
rest_or_over quotient rest code false h = inr (cc)

zero_code : (operator : IntOperator) (x y : ℤ) (code : AbortCode) → HasDivisor operator → y ≡ pos 0 → result_of operator x y ≡ Err code → (code ≡ DivisionByZero) ⊎ (code ≡ Overflow)
zero_code operator x y code has is h = let e = back_by_zero operator x y (has, is) in inl (cc)

otherwise : (operator : IntOperator) (x y : ℤ) (code : AbortCode) → result_of operator x y ≡ Err code → (code ≡ DivisionByZero) ⊎ (code ≡ Overflow)
otherwise Add x y code h = kept_or_over (x +ℤ y) code (is_int (x +ℤ y)) h
otherwise Subtract x y code h = kept_or_over (x -ℤ y) code (is_int (x -ℤ y)) h
otherwise Multiply x y code h = kept_or_over (x *ℤ y) code (is_int (x *ℤ y)) h
otherwise Divide x y code h = zero_or_not y (λ z. zero_code Divide x y code (inl refl) z h) (λ n. kept_or_over (int_div x y) code (is_int (int_div x y)) (sym (quotient_is x y n) ∙ h))
otherwise Remainder x y code h = zero_or_not y (λ z. zero_code Remainder x y code (inr refl) z h) (λ n. rest_or_over (int_div x y) (int_rem x y) code (is_int (int_div x y)) (sym (rest_is x y n) ∙ h))

divisions : (x y quotient rest : ℤ) → result_of Divide x y ≡ Ok quotient → result_of Remainder x y ≡ Ok rest → IsDivision x y quotient rest
divisions x y quotient rest q r = zero_or_not y
    (λ z. no_quotient (back_by_zero Divide x y (inl refl, z)))
    (λ n. subst (λ a. IsDivision x y a rest) (sym ((quotients x y quotient n).0 q).0) (subst (IsDivision x y (int_div x y)) (sym ((remainders x y rest n).0 r).0) (division x y n)))
  where
    no_quotient : result_of Divide x y ≡ Err DivisionByZero → IsDivision x y quotient rest
    no_quotient e = absurd (cc)

pub exactly : ComputesExactly
exactly = record {
  sums = λ x y z. kept (x +ℤ y) z;
  differences = λ x y z. (λ h. let k = (kept (x -ℤ y) z).0 h in (difference x y z k.0, k.1), λ h. (kept (x -ℤ y) z).1 (difference_back x y z h.0, h.1));
  products = λ x y z. kept (x *ℤ y) z;
  quotients = quotients;
  remainders = remainders;
  divisions = divisions;
  by_zero = λ operator x y. (by_zero operator x y, back_by_zero operator x y);
  otherwise = otherwise;
}
