-- The numbers that are left of a loop.
use Rattle.std.proofs.Common.{◌≡◌, ℕ, suc, ◌<◌, Bool, true, false, refl, sym, ap, ◌∙◌, [], ◌∷◌, length, Some, None, ℤ, pos, negsuc, ◌+ℤ◌, ◌-ℤ◌, ◌≤ℤ◌, ◌<ℤ◌, arith}
use borrow.Author.Differences.{le-true, le-false, lt-true, lt-false}
use Rattle.std.specs.Prelude.{int_lt, int_le, if◌then◌else◌}
use Rattle.std.proofs.lemmas.Int.{ints}
use Rattle.meaning.specs.Turns.{numbers_from, or_zero, numbers_between}
use Rattle.interp.specs.Numbers.{first_number, number_after, numbers_left}

none_left : (d : ℤ) → d ≤ℤ pos 0 → or_zero d ≡ 0
none_left (pos n) h = omega (arith, ints, h)
none_left (negsuc n) h = refl

one_more : (d e : ℤ) → d ≡ e +ℤ pos 1 → pos 0 ≤ℤ e → or_zero d ≡ suc (or_zero e)
one_more d (pos n) is h = let k : pos n +ℤ pos 1 ≡ pos (suc n) = omega (arith, ints) in ap or_zero (is ∙ k)
one_more d (negsuc n) is h = absurd (omega (arith, ints, h))

-- a number and those after it
between_on : (low high : ℤ) → low ≤ℤ high → numbers_between low high ≡ low ∷ numbers_between (low +ℤ pos 1) high
between_on low high h =
    ap (λ (n : ℕ). numbers_from n low) (one_more ((high +ℤ pos 1) -ℤ low) ((high +ℤ pos 1) -ℤ (low +ℤ pos 1)) (omega (arith, ints)) (omega (arith, ints, h)))

between_none : (low high : ℤ) → high <ℤ low → numbers_between low high ≡ []
between_none low high h = ap (λ (n : ℕ). numbers_from n low) (none_left ((high +ℤ pos 1) -ℤ low) (omega (arith, ints, h)))

first_by : (b : Bool) (low high : ℤ) → (b ≡ true → low ≤ℤ high) → (b ≡ false → high <ℤ low) → numbers_left (if b then Some low else None) high ≡ numbers_between low high
first_by true low high f g = sym (between_on low high (f refl))
first_by false low high f g = sym (between_none low high (g refl))

-- at the start all numbers are left
pub first_left : (low high : ℤ) → numbers_left (first_number low high) high ≡ numbers_between low high
first_left low high = first_by (int_le low high) low high (λ e. omega (arith, ints, le-true low high e)) (λ e. omega (arith, ints, le-false low high e))

next_by : (b : Bool) (number last : ℤ) → (b ≡ true → number <ℤ last) → (b ≡ false → last ≤ℤ number) → numbers_left (if b then Some (number +ℤ pos 1) else None) last ≡ numbers_between (number +ℤ pos 1) last
next_by true number last f g = sym (between_on (number +ℤ pos 1) last (let h = f refl in omega (arith, ints, h)))
next_by false number last f g = sym (between_none (number +ℤ pos 1) last (let h = g refl in omega (arith, ints, h)))

-- after a number those after it are left
pub next_left : (number last : ℤ) → numbers_left (number_after number last) last ≡ numbers_between (number +ℤ pos 1) last
next_left number last = next_by (int_lt number last) number last (λ e. omega (arith, ints, lt-true number last e)) (λ e. omega (arith, ints, lt-false number last e))

pub fewer_left : (number last : ℤ) → length (numbers_left (number_after number last) last) < length (numbers_left (Some number) last)
fewer_left number last = let e = ap length (next_left number last) in omega (arith, e)
