-- Places of lists.
use Rattle.std.proofs.Common.{◌≡◌, ◌≢◌, ℕ, zero, suc, List, [], ◌∷◌, ◌++◌, length, map, take, Some, refl, slice_get, slice_set, ap, ◌∙◌, ◌⊎◌, inl, inr}

pub push_end : {X : Type 0} (xs : List X) (x : X) → slice_get (xs ++ x ∷ []) (length xs) ≡ Some x
push_end [] x = refl
push_end (y ∷ xs) x = push_end xs x

pub push_before : {X : Type 0} (xs : List X) (x : X) (k : ℕ) → k ≢ length xs → slice_get (xs ++ x ∷ []) k ≡ slice_get xs k
push_before [] x zero apart = absurd (apart refl)
push_before [] x (suc k) apart = refl
push_before (y ∷ xs) x zero apart = refl
push_before (y ∷ xs) x (suc k) apart = push_before xs x k (λ e. apart (ap suc e))

pub set_here : {X : Type 0} (xs : List X) (k : ℕ) (y v : X) → slice_get xs k ≡ Some y → slice_get (slice_set xs k v) k ≡ Some v
set_here [] k y v is = cc
set_here (x ∷ xs) zero y v is = refl
set_here (x ∷ xs) (suc k) y v is = set_here xs k y v is

pub set_elsewhere : {X : Type 0} (xs : List X) (k j : ℕ) (v : X) → j ≢ k → slice_get (slice_set xs k v) j ≡ slice_get xs j
set_elsewhere [] k j v apart = refl
set_elsewhere (x ∷ xs) zero zero v apart = absurd (apart refl)
set_elsewhere (x ∷ xs) zero (suc j) v apart = refl
set_elsewhere (x ∷ xs) (suc k) zero v apart = refl
set_elsewhere (x ∷ xs) (suc k) (suc j) v apart = set_elsewhere xs k j v (λ e. apart (ap suc e))

pub map_push : {X Y : Type 0} (f : X → Y) (xs : List X) (x : X) → map f (xs ++ x ∷ []) ≡ map f xs ++ f x ∷ []
map_push f [] x = refl
map_push f (y ∷ xs) x = ap (λ ys. f y ∷ ys) (map_push f xs x)

pub map_set : {X Y : Type 0} (f : X → Y) (xs : List X) (k : ℕ) (x : X) → map f (slice_set xs k x) ≡ slice_set (map f xs) k (f x)
map_set f [] k x = refl
map_set f (y ∷ xs) zero x = refl
map_set f (y ∷ xs) (suc k) x = ap (λ ys. f y ∷ ys) (map_set f xs k x)

pub length_map : {X Y : Type 0} (f : X → Y) (xs : List X) → length (map f xs) ≡ length xs
length_map f [] = refl
length_map f (x ∷ xs) = ap suc (length_map f xs)

pub set_back : {X : Type 0} (xs : List X) (k : ℕ) (x : X) → slice_get xs k ≡ Some x → slice_set xs k x ≡ xs
set_back [] k x is = refl
set_back (y ∷ xs) zero x is = let e : x ≡ y = cc in ap (λ z. z ∷ xs) e
set_back (y ∷ xs) (suc k) x is = ap (λ ys. y ∷ ys) (set_back xs k x is)

pub set_twice : {X : Type 0} (xs : List X) (k : ℕ) (x y : X) → slice_set (slice_set xs k x) k y ≡ slice_set xs k y
set_twice [] k x y = refl
set_twice (z ∷ xs) zero x y = refl
set_twice (z ∷ xs) (suc k) x y = ap (λ ys. z ∷ ys) (set_twice xs k x y)

-- what is put back where another stood meanwhile
pub put_back : {X : Type 0} (xs mid new : List X) (k : ℕ) (x y : X) → mid ≡ slice_set xs k x → new ≡ slice_set mid k y → new ≡ slice_set xs k y
put_back xs mid new k x y taken put = put ∙ ap (λ zs. slice_set zs k y) taken ∙ set_twice xs k x y

pub take_pushed : {X : Type 0} (xs : List X) (x : X) → take (length xs) (xs ++ x ∷ []) ≡ xs
take_pushed [] x = refl
take_pushed (y ∷ xs) x = ap (λ ys. y ∷ ys) (take_pushed xs x)

pub set_or_was : {X : Type 0} (xs : List X) (k : ℕ) (v : X) (j : ℕ) (x : X) → slice_get (slice_set xs k v) j ≡ Some x → (v ≡ x) ⊎ (slice_get xs j ≡ Some x)
set_or_was [] k v j x is = inr is
set_or_was (y ∷ xs) zero v zero x is = inl (let e : Some v ≡ Some x = is in cc)
set_or_was (y ∷ xs) zero v (suc j) x is = inr is
set_or_was (y ∷ xs) (suc k) v zero x is = inr is
set_or_was (y ∷ xs) (suc k) v (suc j) x is = set_or_was xs k v j x is
