-- What passes between two states of a device whose bytes may be unknown.
use Rattle.std.proofs.Common.{◌≡◌, ℕ, subst, List, [], ◌∷◌, ◌++◌, append-nil, Option, None, Some, sym, ap}
use Rattle.std.specs.Option.{IfSome}
use Rattle.std.specs.Io.KnownBytes.{Consumes, IsAtEnd, prepend_known}
use Rattle.devices.specs.Devices.{Passes}

pub Passes-trans : (P Q R : List ℕ → List ℕ → Type 0) (a b c : Option (List ℕ)) →
    Passes P a b → Passes Q b c → ((x y z : List ℕ) → P x y → Q y z → R x z) → Passes R a c
unfolding Passes
Passes-trans P Q R None b c p q join = tt
Passes-trans P Q R (Some x) None c p q join = absurd p
Passes-trans P Q R (Some x) (Some y) None p q join = absurd q
Passes-trans P Q R (Some x) (Some y) (Some z) p q join = join x y z p q

pub Passes-from_consumes : (P : List ℕ → List ℕ → Type 0) (a b : Option (List ℕ)) (bs : List ℕ) →
    ((ys : List ℕ) → P (bs ++ ys) ys) → Consumes a b bs → Passes P a b
unfolding Passes
Passes-from_consumes P None b bs each h = tt
Passes-from_consumes P (Some x) None bs each h = absurd h
Passes-from_consumes P (Some x) (Some y) bs each h =
    let Q : List ℕ → Type 0 = λ v. P v y in subst Q (sym h) (each y)

pub Passes-at_end : (P : List ℕ → List ℕ → Type 0) (a b : Option (List ℕ)) (bs : List ℕ) →
    P bs [] → Consumes a b bs → IsAtEnd b → Passes P a b
unfolding Passes
Passes-at_end P None b bs each h e = tt
Passes-at_end P (Some x) None bs each h e = absurd h
Passes-at_end P (Some x) (Some y) bs each h e =
    let Q : List ℕ → Type 0 = λ v. P v y in let R : List ℕ → Type 0 = λ w. P (bs ++ w) w in
    subst Q (sym h) (subst R (sym e) (let Z : List ℕ → Type 0 = λ v. P v [] in subst Z (sym (append-nil bs)) each))

pub Passes-refl : (P : List ℕ → List ℕ → Type 0) (a : Option (List ℕ)) → ((x : List ℕ) → P x x) → Passes P a a
unfolding Passes
Passes-refl P None each = tt
Passes-refl P (Some x) each = each x

pub Passes-weaken : (P Q : List ℕ → List ℕ → Type 0) (a b : Option (List ℕ)) → Passes P a b → ((x y : List ℕ) → P x y → Q x y) → Passes Q a b
unfolding Passes
Passes-weaken P Q None b p each = tt
Passes-weaken P Q (Some x) None p each = absurd p
Passes-weaken P Q (Some x) (Some y) p each = each x y p

-- a fact of the bytes that were known first
pub Passes-first : (P : List ℕ → List ℕ → Type 0) (Q : List ℕ → Type 0) (a b : Option (List ℕ)) → Passes P a b →
    ((x y : List ℕ) → P x y → Q x) → IfSome a Q
unfolding Passes
Passes-first P Q None b p each = tt
Passes-first P Q (Some x) None p each = absurd p
Passes-first P Q (Some x) (Some y) p each = each x y p

no_more : (came ys : List ℕ) → came ++ ys ≡ [] → ys ≡ []
no_more [] ys h = h
no_more (b ∷ came) ys h = cc

-- a source has nothing left where a reader's bytes and its own are none
pub left_at_end : (P : List ℕ → List ℕ → Type 0) (a left : Option (List ℕ)) (came : List ℕ) → Passes P a (prepend_known came left) →
    ((x y : List ℕ) → P x y → y ≡ []) → IfSome a (λ _. left ≡ Some [])
unfolding Passes
left_at_end P None left came p each = tt
left_at_end P (Some x) None came p each = absurd p
left_at_end P (Some x) (Some y) came p each = ap Some (no_more came y (each x (came ++ y) p))
