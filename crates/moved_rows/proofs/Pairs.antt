-- Two lists that are alike place by place.
use Rattle.std.proofs.Common.{◌≡◌, Bool, true, false, cond, List, [], ◌∷◌, ◌++◌, map, filter, zip, length, suc, refl, ap, ap₂}
use Rattle.std.specs.Prelude.{⊤}

abbrev pub Pairs : {A B : Type 0} → (A → B → Type 0) → List A → List B → Type 0
Pairs R [] [] = ⊤
Pairs R [] (y ∷ ys) = ⊥
Pairs R (x ∷ xs) [] = ⊥
Pairs R (x ∷ xs) (y ∷ ys) = R x y × Pairs R xs ys

pub pairs_append : {A B : Type 0} (R : A → B → Type 0) (xs zs : List A) (ys ws : List B) → Pairs R xs ys → Pairs R zs ws → Pairs R (xs ++ zs) (ys ++ ws)
pairs_append R [] zs [] ws h k = k
pairs_append R [] zs (y ∷ ys) ws h k = absurd h
pairs_append R (x ∷ xs) zs [] ws h k = absurd h
pairs_append R (x ∷ xs) zs (y ∷ ys) ws h k = (h.0, pairs_append R xs zs ys ws h.1 k)

pub pairs_map : {A B C D : Type 0} (R : A → B → Type 0) (S : C → D → Type 0) (f : A → C) (g : B → D) → ((x : A) (y : B) → R x y → S (f x) (g y)) → (xs : List A) (ys : List B) → Pairs R xs ys → Pairs S (map f xs) (map g ys)
pairs_map R S f g goes [] [] h = tt
pairs_map R S f g goes [] (y ∷ ys) h = absurd h
pairs_map R S f g goes (x ∷ xs) [] h = absurd h
pairs_map R S f g goes (x ∷ xs) (y ∷ ys) h = (goes x y h.0, pairs_map R S f g goes xs ys h.1)

pub map_equal : {A B C : Type 0} (R : A → B → Type 0) (f : A → C) (g : B → C) → ((x : A) (y : B) → R x y → f x ≡ g y) → (xs : List A) (ys : List B) → Pairs R xs ys → map f xs ≡ map g ys
map_equal R f g alike [] [] h = refl
map_equal R f g alike [] (y ∷ ys) h = absurd h
map_equal R f g alike (x ∷ xs) [] h = absurd h
map_equal R f g alike (x ∷ xs) (y ∷ ys) h = ap₂ (λ z zs. z ∷ zs) (alike x y h.0) (map_equal R f g alike xs ys h.1)

pub pairs_length : {A B : Type 0} (R : A → B → Type 0) (xs : List A) (ys : List B) → Pairs R xs ys → length xs ≡ length ys
pairs_length R [] [] h = refl
pairs_length R [] (y ∷ ys) h = absurd h
pairs_length R (x ∷ xs) [] h = absurd h
pairs_length R (x ∷ xs) (y ∷ ys) h = ap suc (pairs_length R xs ys h.1)

pub pairs_filter : {A B : Type 0} (R : A → B → Type 0) (p : A → Bool) (q : B → Bool) → ((x : A) (y : B) → R x y → p x ≡ q y) → (xs : List A) (ys : List B) → Pairs R xs ys → Pairs R (filter p xs) (filter q ys)
pairs_filter R p q alike [] [] h = tt
pairs_filter R p q alike [] (y ∷ ys) h = absurd h
pairs_filter R p q alike (x ∷ xs) [] h = absurd h
pairs_filter R p q alike (x ∷ xs) (y ∷ ys) h = by (p x) (q y) (alike x y h.0) (pairs_filter R p q alike xs ys h.1)
  where
    by : (b c : Bool) → b ≡ c → Pairs R (filter p xs) (filter q ys) → Pairs R (cond b (x ∷ filter p xs) (filter p xs)) (cond c (y ∷ filter q ys) (filter q ys))
    by true true e rest = (h.0, rest)
    by false false e rest = rest
    by true false e rest = absurd cc
    by false true e rest = absurd cc

pub pairs_zip : {A B C : Type 0} (R : A → B → Type 0) (xs : List A) (ys : List B) (zs : List C) → Pairs R xs ys → Pairs (λ (a : A × C) (b : B × C). R a.0 b.0 × (a.1 ≡ b.1)) (zip xs zs) (zip ys zs)
pairs_zip R [] [] zs h = tt
pairs_zip R [] (y ∷ ys) zs h = absurd h
pairs_zip R (x ∷ xs) [] zs h = absurd h
pairs_zip R (x ∷ xs) (y ∷ ys) [] h = tt
pairs_zip R (x ∷ xs) (y ∷ ys) (z ∷ zs) h = ((h.0, refl), pairs_zip R xs ys zs h.1)
