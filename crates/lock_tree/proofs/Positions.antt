-- Where nodes stand in a list.
use Rattle.std.proofs.Common.{◌≡◌, ℕ, ◌+◌, ◌<◌, ◌≤◌, ◌⊎◌, ◌||◌, inl, inr, zero, suc, eqb, cond, Bool, true, false, List, [], ◌∷◌, ◌++◌, length, map, get_or, None, Some, refl, sym, ◌∙◌, ap, arith}
use Rattle.std.specs.Prelude.{slice_get, slice_set}
use Rattle.std.specs.List.{remove, list_any}
use Rattle.std.proofs.lemmas.Bool.Decides.{nat_tests}
use Rattle.request_arena.specs.Following.{without}

pub some_is : {X : Type 0} (x y : X) → Some x ≡ Some y → x ≡ y
some_is x y e = cc

pub none_is : {X : Type 0} (x : X) → None ≡ Some x → ⊥
none_is x e = absurd (cc)

-- ---- one more at the end

pub get_front : {X : Type 0} (xs ys : List X) (i : ℕ) (v : X) → slice_get xs i ≡ Some v → slice_get (xs ++ ys) i ≡ Some v
get_front [] ys i v h = absurd (none_is v h)
get_front (x ∷ xs) ys zero v h = h
get_front (x ∷ xs) ys (suc i) v h = get_front xs ys i v h

pub get_last : {X : Type 0} (xs : List X) (x : X) → slice_get (xs ++ x ∷ []) (length xs) ≡ Some x
get_last [] x = refl
get_last (y ∷ xs) x = get_last xs x

pub get_either : {X : Type 0} (xs : List X) (x : X) (i : ℕ) (v : X) → slice_get (xs ++ x ∷ []) i ≡ Some v → (slice_get xs i ≡ Some v) ⊎ ((i ≡ length xs) × (v ≡ x))
get_either [] x zero v h = inr (refl, sym (some_is x v h))
get_either [] x (suc i) v h = absurd (none_is v h)
get_either (y ∷ xs) x zero v h = inl h
get_either (y ∷ xs) x (suc i) v h = elim (get_either xs x i v h) [
  | inl there ↦ inl there
  | inr last ↦ inr (ap suc last.0, last.1)
]

pub get_set : {X : Type 0} (xs : List X) (i j : ℕ) (x v : X) → slice_get (slice_set xs i x) j ≡ Some v → (slice_get xs j ≡ Some v) ⊎ ((i ≡ j) × (v ≡ x))
get_set [] i j x v h = inl h
get_set (y ∷ xs) zero zero x v h = inr (refl, sym (some_is x v h))
get_set (y ∷ xs) zero (suc j) x v h = inl h
get_set (y ∷ xs) (suc i) zero x v h = inl h
get_set (y ∷ xs) (suc i) (suc j) x v h = elim (get_set xs i j x v h) [
  | inl there ↦ inl there
  | inr same ↦ inr (ap suc same.0, same.1)
]

pub get_set_other : {X : Type 0} (xs : List X) (i j : ℕ) (x : X) → (j ≡ i → ⊥) → slice_get (slice_set xs i x) j ≡ slice_get xs j
get_set_other [] i j x other = refl
get_set_other (y ∷ xs) zero zero x other = absurd (other refl)
get_set_other (y ∷ xs) zero (suc j) x other = refl
get_set_other (y ∷ xs) (suc i) zero x other = refl
get_set_other (y ∷ xs) (suc i) (suc j) x other = get_set_other xs i j x (λ e. other (ap suc e))

pub get_set_same : {X : Type 0} (xs : List X) (i : ℕ) (x : X) → i < length xs → slice_get (slice_set xs i x) i ≡ Some x
get_set_same [] i x near = absurd (omega arith)
get_set_same (y ∷ xs) zero x near = refl
get_set_same (y ∷ xs) (suc i) x near = get_set_same xs i x (omega arith)

-- ---- one less

same_number : (a b : ℕ) → a ≡ b → eqb a b ≡ true
same_number a b h = grind (arith, nat_tests)

other_number : (a b : ℕ) → (a ≡ b → ⊥) → eqb a b ≡ false
other_number a b h = grind (arith, nat_tests)

is_number : (a b : ℕ) → eqb a b ≡ true → a ≡ b
is_number a b h = grind (arith, nat_tests)

not_number : (a b : ℕ) → eqb a b ≡ false → a ≡ b → ⊥
not_number a b h e = let t = same_number a b e in absurd (cc)

abbrev pub Absent : ℕ → List ℕ → Type 0
Absent a xs = (j : ℕ) → slice_get xs j ≡ Some a → ⊥

pub without_absent : (a : ℕ) (xs : List ℕ) → Absent a xs → without a xs ≡ xs
without_absent a [] absent = refl
without_absent a (x ∷ xs) absent =
    ap (λ v. cond v (without a xs) (x ∷ without a xs)) (other_number x a (λ e. absent 0 (ap Some e))) ∙ ap (λ ys. x ∷ ys) (without_absent a xs (λ j h. absent (suc j) h))

pub without_at : (a : ℕ) (xs : List ℕ) (i : ℕ) → slice_get xs i ≡ Some a → ((j : ℕ) → slice_get xs j ≡ Some a → i ≡ j) → without a xs ≡ remove xs i
without_at a [] i here once = absurd (none_is a here)
without_at a (x ∷ xs) zero here once =
    ap (λ v. cond v (without a xs) (x ∷ without a xs)) (same_number x a (some_is x a here)) ∙ without_absent a xs (λ j h. let e = once (suc j) h in absurd (omega arith))
without_at a (x ∷ xs) (suc i) here once =
    ap (λ v. cond v (without a xs) (x ∷ without a xs)) (other_number x a (λ e. let o = once 0 (ap Some e) in absurd (omega arith)))
    ∙ ap (λ ys. x ∷ ys) (without_at a xs i here (λ j h. let e = once (suc j) h in omega arith))

pub removed_length : {X : Type 0} (xs : List X) (i : ℕ) → i < length xs → length (remove xs i) + 1 ≡ length xs
removed_length [] i near = absurd (omega arith)
removed_length (x ∷ xs) zero near = omega arith
removed_length (x ∷ xs) (suc i) near = let h = removed_length xs i (omega arith) in omega arith

pub removed_before : {X : Type 0} (xs : List X) (i j : ℕ) → j < i → slice_get (remove xs i) j ≡ slice_get xs j
removed_before [] zero j lt = absurd (omega arith)
removed_before [] (suc i) j lt = refl
removed_before (x ∷ xs) zero j lt = absurd (omega arith)
removed_before (x ∷ xs) (suc i) zero lt = refl
removed_before (x ∷ xs) (suc i) (suc j) lt = removed_before xs i j (omega arith)

pub removed_after : {X : Type 0} (xs : List X) (i j : ℕ) → i ≤ j → slice_get (remove xs i) j ≡ slice_get xs (suc j)
removed_after [] zero j le = refl
removed_after [] (suc i) j le = refl
removed_after (x ∷ xs) zero j le = refl
removed_after (x ∷ xs) (suc i) zero le = absurd (omega arith)
removed_after (x ∷ xs) (suc i) (suc j) le = removed_after xs i j (omega arith)

-- the others stand in the list as before
pub stands_still : (a b : ℕ) (xs : List ℕ) (j : ℕ) → slice_get xs j ≡ Some b → (b ≡ a → ⊥) → (k : ℕ) × (slice_get (without a xs) k ≡ Some b)
stands_still a b [] j there other = absurd (none_is b there)
stands_still a b (x ∷ xs) zero there other =
    (0, ap (λ v. slice_get (cond v (without a xs) (x ∷ without a xs)) 0) (other_number x a (λ e. other (sym (some_is x b there) ∙ e))) ∙ there)
stands_still a b (x ∷ xs) (suc j) there other =
    let k = stands_still a b xs j there other in
    elim (eqb x a) as (λ v. (k : ℕ) × (slice_get (cond v (without a xs) (x ∷ without a xs)) k ≡ Some b)) [
      | true ↦ k
      | false ↦ (suc k.0, k.1)
    ]

pub stood : (a b : ℕ) (xs : List ℕ) (k : ℕ) → slice_get (without a xs) k ≡ Some b → (j : ℕ) × (slice_get xs j ≡ Some b)
stood a b [] k there = absurd (none_is b there)
stood a b (x ∷ xs) k there =
    elim (eqb x a) as (λ v. slice_get (cond v (without a xs) (x ∷ without a xs)) k ≡ Some b → (j : ℕ) × (slice_get (x ∷ xs) j ≡ Some b)) [
      | true ↦ λ there. let j = stood a b xs k there in (suc j.0, j.1)
      | false ↦ λ there. first x (without a xs) xs k there (λ m h. stood a b xs m h)
    ] there
  where
    first : (x : ℕ) (ys xs : List ℕ) (k : ℕ) → slice_get (x ∷ ys) k ≡ Some b → ((m : ℕ) → slice_get ys m ≡ Some b → (j : ℕ) × (slice_get xs j ≡ Some b)) → (j : ℕ) × (slice_get (x ∷ xs) j ≡ Some b)
    first x ys xs zero there more = (0, there)
    first x ys xs (suc k) there more = let j = more k there in (suc j.0, j.1)

-- ---- no list has one node but the queue that it stands in

all_without : (a : ℕ) (qs : List (List ℕ)) → ((r j : ℕ) → slice_get (get_or qs r []) j ≡ Some a → ⊥) → map (without a) qs ≡ qs
all_without a [] absent = refl
all_without a (xs ∷ qs) absent =
    ap (λ ys. ys ∷ map (without a) qs) (without_absent a xs (λ j h. absent 0 j h)) ∙ ap (λ rs. xs ∷ rs) (all_without a qs (λ r j h. absent (suc r) j h))

pub one_without : (a : ℕ) (qs : List (List ℕ)) (q : ℕ) → ((r j : ℕ) → slice_get (get_or qs r []) j ≡ Some a → q ≡ r) → map (without a) qs ≡ slice_set qs q (without a (get_or qs q []))
one_without a [] q only = refl
one_without a (xs ∷ qs) zero only = ap (λ rs. without a xs ∷ rs) (all_without a qs (λ r j h. let e = only (suc r) j h in absurd (omega arith)))
one_without a (xs ∷ qs) (suc q) only =
    ap (λ ys. ys ∷ map (without a) qs) (without_absent a xs (λ j h. let e = only 0 j h in absurd (omega arith)))
    ∙ ap (λ rs. xs ∷ rs) (one_without a qs q (λ r j h. let e = only (suc r) j h in omega arith))

-- a node at the end is among them
pub ends_with : (xs : List ℕ) (y : ℕ) → list_any (eqb y) (xs ++ y ∷ []) ≡ true
ends_with [] y = ap (λ v. v || false) (same_number y y refl)
ends_with (x ∷ xs) y = last (eqb y x) (list_any (eqb y) (xs ++ y ∷ [])) (ends_with xs y)
  where
    last : (a b : Bool) → b ≡ true → (a || b) ≡ true
    last true b e = refl
    last false b e = e
