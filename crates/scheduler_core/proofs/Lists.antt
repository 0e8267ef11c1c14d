-- Lists that are pushed to, set at a place, taken and mapped.
use Rattle.std.proofs.Common.{◌≡◌, ◌≢◌, ℕ, zero, suc, ◌+◌, ◌<◌, ◌≤◌, ◌⊎◌, inl, inr, Bool, true, false, ◌&&◌, List, [], ◌∷◌, ◌++◌, length, Option, None, Some, refl, sym, ◌∙◌, ap, arith, slice_get, slice_set, map, take}
use Rattle.std.specs.List.{list_all, Contains}

pub cases : (b : Bool) → (b ≡ true) ⊎ (b ≡ false)
cases true = inl refl
cases false = inr refl

pub both : (a b : Bool) → (a && b) ≡ true → (a ≡ true) × (b ≡ true)
both true b h = (refl, h)
both false b h = absurd (cc)

pub split : (i j : ℕ) → (i < j) ⊎ ((i ≡ j) ⊎ (j < i))
split i j = grind arith

pub true_false : (b : Bool) → b ≡ true → b ≡ false → ⊥
true_false true h k = absurd (cc)
true_false false h k = absurd (cc)

pub some_is : {X : Type 0} (x y : X) → Some x ≡ Some y → x ≡ y
some_is x y e = cc

pub none_some : {X : Type 0} (x : X) → None ≡ Some x → ⊥
none_some x e = absurd (cc)

pub get_at : {X : Type 0} (xs : List X) (i : ℕ) → i < length xs → (x : X) × (slice_get xs i ≡ Some x)
get_at [] i less = absurd (omega arith)
get_at (x ∷ xs) zero less = (x, refl)
get_at (x ∷ xs) (suc i) less = get_at xs i (omega arith)

pub get_past : {X : Type 0} (xs : List X) (i : ℕ) → length xs ≤ i → slice_get xs i ≡ None
get_past [] i more = refl
get_past (x ∷ xs) zero more = absurd (omega arith)
get_past (x ∷ xs) (suc i) more = get_past xs i (omega arith)

pub get_within : {X : Type 0} (xs : List X) (i : ℕ) (x : X) → slice_get xs i ≡ Some x → i < length xs
get_within [] i x is = absurd (none_some x is)
get_within (y ∷ xs) zero x is = omega arith
get_within (y ∷ xs) (suc i) x is = let less = get_within xs i x is in omega (arith, less)

pub get_push_end : {X : Type 0} (xs : List X) (x : X) → slice_get (xs ++ x ∷ []) (length xs) ≡ Some x
get_push_end [] x = refl
get_push_end (y ∷ xs) x = get_push_end xs x

pub get_push_other : {X : Type 0} (xs : List X) (x : X) (k : ℕ) → k ≢ length xs → slice_get (xs ++ x ∷ []) k ≡ slice_get xs k
get_push_other [] x zero apart = absurd (apart refl)
get_push_other [] x (suc k) apart = refl
get_push_other (y ∷ xs) x zero apart = refl
get_push_other (y ∷ xs) x (suc k) apart = get_push_other xs x k (λ e. apart (ap suc e))

pub get_set_same : {X : Type 0} (xs : List X) (k : ℕ) (y v : X) → slice_get xs k ≡ Some y → slice_get (slice_set xs k v) k ≡ Some v
get_set_same [] k y v is = absurd (none_some y is)
get_set_same (x ∷ xs) zero y v is = refl
get_set_same (x ∷ xs) (suc k) y v is = get_set_same xs k y v is

pub get_set_other : {X : Type 0} (xs : List X) (k j : ℕ) (v : X) → j ≢ k → slice_get (slice_set xs k v) j ≡ slice_get xs j
get_set_other [] k j v apart = refl
get_set_other (x ∷ xs) zero zero v apart = absurd (apart refl)
get_set_other (x ∷ xs) zero (suc j) v apart = refl
get_set_other (x ∷ xs) (suc k) zero v apart = refl
get_set_other (x ∷ xs) (suc k) (suc j) v apart = get_set_other xs k j v (λ e. apart (ap suc e))

pub length_push : {X : Type 0} (xs : List X) (x : X) → length (xs ++ x ∷ []) ≡ length xs + 1
length_push [] x = refl
length_push (y ∷ xs) x = let more = length_push xs x in omega (arith, more)

pub length_set : {X : Type 0} (xs : List X) (k : ℕ) (v : X) → length (slice_set xs k v) ≡ length xs
length_set [] k v = refl
length_set (x ∷ xs) zero v = refl
length_set (x ∷ xs) (suc k) v = ap suc (length_set xs k v)

pub length_mapped : {X Y : Type 0} (f : X → Y) (xs : List X) → length (map f xs) ≡ length xs
length_mapped f [] = refl
length_mapped f (x ∷ xs) = ap suc (length_mapped f xs)

pub map_push : {X Y : Type 0} (f : X → Y) (xs : List X) (x : X) → map f (xs ++ x ∷ []) ≡ map f xs ++ f x ∷ []
map_push f [] x = refl
map_push f (y ∷ xs) x = ap (λ ys. f y ∷ ys) (map_push f xs x)

pub map_set : {X Y : Type 0} (f : X → Y) (xs : List X) (k : ℕ) (x : X) → map f (slice_set xs k x) ≡ slice_set (map f xs) k (f x)
map_set f [] k x = refl
map_set f (y ∷ xs) zero x = refl
map_set f (y ∷ xs) (suc k) x = ap (λ ys. f y ∷ ys) (map_set f xs k x)

pub get_mapped : {X Y : Type 0} (f : X → Y) (xs : List X) (k : ℕ) (x : X) → slice_get xs k ≡ Some x → slice_get (map f xs) k ≡ Some (f x)
get_mapped f [] k x is = absurd (none_some x is)
get_mapped f (y ∷ xs) zero x is = ap (λ z. Some (f z)) (some_is y x is)
get_mapped f (y ∷ xs) (suc k) x is = get_mapped f xs k x is

pub mapped_from : {X Y : Type 0} (f : X → Y) (xs : List X) (k : ℕ) (y : Y) → slice_get (map f xs) k ≡ Some y → (x : X) × (slice_get xs k ≡ Some x) × (f x ≡ y)
mapped_from f [] k y is = absurd (none_some y is)
mapped_from f (x ∷ xs) zero y is = (x, refl, some_is (f x) y is)
mapped_from f (x ∷ xs) (suc k) y is = mapped_from f xs k y is

pub take_all : {X : Type 0} (xs : List X) → take (length xs) xs ≡ xs
take_all [] = refl
take_all (x ∷ xs) = ap (λ ys. x ∷ ys) (take_all xs)

pub take_next : {X : Type 0} (xs : List X) (k : ℕ) (x : X) → slice_get xs k ≡ Some x → take (suc k) xs ≡ take k xs ++ x ∷ []
take_next [] k x is = absurd (none_some x is)
take_next (y ∷ xs) zero x is = ap (λ z. z ∷ []) (some_is y x is)
take_next (y ∷ xs) (suc k) x is = ap (λ ys. y ∷ ys) (take_next xs k x is)

pub take_past : {X : Type 0} (xs : List X) (k : ℕ) → length xs ≤ k → take k xs ≡ xs
take_past [] zero more = refl
take_past [] (suc k) more = refl
take_past (x ∷ xs) zero more = absurd (omega arith)
take_past (x ∷ xs) (suc k) more = ap (λ ys. x ∷ ys) (take_past xs k (omega arith))

-- lists that have the same at each place are one
pub same_places : {X : Type 0} (xs ys : List X) → length xs ≡ length ys → ((k : ℕ) (x : X) → slice_get xs k ≡ Some x → slice_get ys k ≡ Some x) → xs ≡ ys
same_places [] [] long same = refl
same_places [] (y ∷ ys) long same = absurd (omega (arith, long))
same_places (x ∷ xs) [] long same = absurd (omega (arith, long))
same_places (x ∷ xs) (y ∷ ys) long same =
    ap (λ z. z ∷ xs) (sym (some_is y x (same 0 x refl))) ∙ ap (λ zs. y ∷ zs) (same_places xs ys (omega (arith, long)) (λ k z is. same (suc k) z is))

pub each_passes : {X : Type 0} (test : X → Bool) (xs : List X) (i : ℕ) (x : X) → list_all test xs ≡ true → slice_get xs i ≡ Some x → test x ≡ true
each_passes test [] i x every is = absurd (none_some x is)
each_passes test (y ∷ xs) zero x every is = sym (ap test (some_is y x is)) ∙ (both (test y) (list_all test xs) every).0
each_passes test (y ∷ xs) (suc i) x every is = each_passes test xs i x (both (test y) (list_all test xs) every).1 is

pub contains_first : {X : Type 0} (x : X) (xs : List X) → Contains (x ∷ xs) x
contains_first x xs = (0, omega arith, refl)

pub contains_later : {X : Type 0} (y : X) (xs : List X) (x : X) → Contains xs x → Contains (y ∷ xs) x
contains_later y xs x (k, less, is) = (suc k, omega (arith, less), is)

pub not_in_nothing : {X : Type 0} (x : X) → Contains [] x → ⊥
not_in_nothing x (k, less, is) = omega (arith, less)

pub first_or_later : {X : Type 0} (y : X) (xs : List X) (x : X) → Contains (y ∷ xs) x → (y ≡ x) ⊎ Contains xs x
first_or_later y xs x (zero, less, is) = inl is
first_or_later y xs x (suc k, less, is) = inr (k, omega (arith, less), is)

-- a test that an element pushed does not pass
pub push_test : {X : Type 0} (test : Option X → Bool) (xs : List X) (x : X) → test (Some x) ≡ test None → (i : ℕ) → test (slice_get (xs ++ x ∷ []) i) ≡ test (slice_get xs i)
push_test test [] x same zero = same
push_test test [] x same (suc i) = refl
push_test test (y ∷ xs) x same zero = refl
push_test test (y ∷ xs) x same (suc i) = push_test test xs x same i

-- a test that says the same of the old and the new element
pub set_test : {X : Type 0} (test : Option X → Bool) (xs : List X) (k : ℕ) (x y : X) → slice_get xs k ≡ Some x → test (Some y) ≡ test (Some x)
    → (i : ℕ) → test (slice_get (slice_set xs k y) i) ≡ test (slice_get xs i)
set_test test [] k x y is same i = refl
set_test test (z ∷ xs) zero x y is same zero = same ∙ ap (λ w. test (Some w)) (sym (some_is z x is))
set_test test (z ∷ xs) zero x y is same (suc i) = refl
set_test test (z ∷ xs) (suc k) x y is same zero = refl
set_test test (z ∷ xs) (suc k) x y is same (suc i) = set_test test xs k x y is same i
