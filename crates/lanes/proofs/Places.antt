-- Where a lane stands among those that are held.
use Rattle.std.proofs.Common.{◌≡◌, ◌≢◌, ℕ, zero, suc, ◌<◌, List, [], ◌∷◌, ◌++◌, get_or, take, drop, sym, refl, ap, subst, arith}
use Rattle.std.specs.Prelude.{Contains, None}
use Rattle.std.proofs.lemmas.List.Elements.{Contains-append_left, Contains-append_right}
use native.Mathlib.Decide.{ℕ_discrete}
use Rattle.atomic_table.specs.Table.{turned}
use Rattle.lanes.specs.Kept.{empties}

abbrev pub step : {x y : ℕ} → Dec (x ≡ y) → ℕ → ℕ
step (yes _) n = 0
step (no _) n = suc n

-- the first place of a number in a list, or how long the list is
abbrev pub first_place : ℕ → List ℕ → ℕ
first_place x [] = 0
first_place x (y ∷ ys) = step (ℕ_discrete y x) (first_place x ys)

in_rest : (x y : ℕ) (ys : List ℕ) → y ≢ x → Contains (y ∷ ys) x → Contains ys x
in_rest x y ys ne (zero, near, is) = absurd (ne is)
in_rest x y ys ne (suc k, near, is) = (k, omega arith, is)

pub rest_holds : (x y : ℕ) (ys : List ℕ) → y ≢ x → Contains (y ∷ ys) x → Contains ys x
rest_holds = in_rest

-- a number that is there has the same place in a longer list
same_step : (x : ℕ) (z : ℕ) (y : ℕ) (ys : List ℕ) → (y ≢ x → first_place x (ys ++ z ∷ []) ≡ first_place x ys) → (d : Dec (y ≡ x)) → step d (first_place x (ys ++ z ∷ [])) ≡ step d (first_place x ys)
same_step x z y ys later (yes e) = refl
same_step x z y ys later (no n) = ap suc (later n)

same_place : (x z : ℕ) (ys : List ℕ) → Contains ys x → first_place x (ys ++ z ∷ []) ≡ first_place x ys
same_place x z [] (k, near, is) = absurd (omega arith)
same_place x z (y ∷ ys) there = same_step x z y ys (λ n. same_place x z ys (in_rest x y ys n there)) (ℕ_discrete y x)

-- turning the front to the back brings nearer what is not in front
pub nearer : (x y : ℕ) (ys : List ℕ) → y ≢ x → Contains (y ∷ ys) x → first_place x (ys ++ y ∷ []) < first_place x (y ∷ ys)
nearer x y ys ne there = let same = same_place x y ys (in_rest x y ys ne there) in go (ℕ_discrete y x) same
  where
    go : (d : Dec (y ≡ x)) → first_place x (ys ++ y ∷ []) ≡ first_place x ys → first_place x (ys ++ y ∷ []) < step d (first_place x ys)
    go (yes e) same = absurd (ne e)
    go (no n) same = omega arith

pub turned_holds : (x y : ℕ) (ys : List ℕ) → Contains (y ∷ ys) x → Contains (ys ++ y ∷ []) x
turned_holds x y ys (zero, near, is) = Contains-append_right ys (y ∷ []) x (0, omega arith, is)
turned_holds x y ys (suc k, near, is) = Contains-append_left ys (y ∷ []) x (k, omega arith, is)

empties_more : (ys : List ℕ) (y : ℕ) → empties (ys ++ y ∷ []) ≡ empties ys ++ (y, None) ∷ []
empties_more [] y = refl
empties_more (x ∷ xs) y = λ i. (x, None) ∷ empties_more xs y i

-- one turn, of the lanes and of their slots
pub one_turn : (lane : ℕ) (held after : List ℕ) → Contains held lane → get_or held 0 0 ≢ lane → after ≡ drop 1 held ++ take 1 held
    → (turned (empties held) ≡ empties after) × (first_place lane after < first_place lane held) × ((k : ℕ) → Contains held k → Contains after k)
one_turn lane [] after (k, near, is) ne e = absurd (omega arith)
one_turn lane (y ∷ ys) after there ne e = subst (λ (l : List ℕ). (turned (empties (y ∷ ys)) ≡ empties l) × (first_place lane l < first_place lane (y ∷ ys)) × ((k : ℕ) → Contains (y ∷ ys) k → Contains l k)) (sym e)
    (sym (empties_more ys y), nearer lane y ys ne there, λ k c. turned_holds k y ys c)

-- what is in front
pub front_is : (lane : ℕ) (held : List ℕ) → Contains held lane → get_or held 0 0 ≡ lane → held ≡ lane ∷ drop 1 held
front_is lane [] (k, near, is) e = absurd (omega arith)
front_is lane (y ∷ ys) there e = λ i. e i ∷ ys
