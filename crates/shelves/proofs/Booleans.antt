-- Tests: what holds of one of two, of both, of neither.
use Rattle.std.proofs.Common.{◌≡◌, Bool, true, false, ◌&&◌, ◌||◌, List, refl, ap, ◌∙◌, ◌⊎◌, inl, inr, ℕ, ◌==◌, [], ◌∷◌, arith, zero, suc, take}
use Rattle.std.proofs.lemmas.Bool.Decides.{nat_tests}
use Rattle.std.specs.List.{list_any}

pub or_left : (a b : Bool) → a ≡ true → a || b ≡ true
or_left a b h = ap (λ x. x || b) h

pub or_right : (a b : Bool) → b ≡ true → a || b ≡ true
or_right true b h = refl
or_right false b h = h

pub neither : (a b : Bool) → a || b ≡ false → (a ≡ false) × (b ≡ false)
neither true b h = absurd (cc)
neither false b h = (refl, h)

-- what is in no element is in none of the first
pub none_first : {X : Type 0} (p : X → Bool) (xs : List X) (i : ℕ) → list_any p xs ≡ false → list_any p (take i xs) ≡ false
none_first p [] zero h = refl
none_first p [] (suc i) h = refl
none_first p (x ∷ xs) zero h = refl
none_first p (x ∷ xs) (suc i) h =
    let both = neither (p x) (list_any p xs) h in
    ap (λ b. b || list_any p (take i xs)) both.0 ∙ none_first p xs i both.1

pub cases : (b : Bool) → (b ≡ true) ⊎ (b ≡ false)
cases true = inl refl
cases false = inr refl

pub itself : (n : ℕ) → (n == n) ≡ true
itself n = grind (arith, nat_tests)

pub second : (a b : Bool) → a && b ≡ true → b ≡ true
second true b h = h
second false b h = absurd (cc)

pub either : (a b : Bool) → a || b ≡ true → (a ≡ true) ⊎ (b ≡ true)
either true b h = inl refl
either false b h = inr h
