-- The numbers of the open transactions, as transactions change.
use Rattle.std.proofs.Common.{◌≡◌, ℕ, ◌+◌, ◌<◌, ◌≤◌, ◌==◌, zero, suc, nat_lt, Bool, true, false, cond, List, [], ◌∷◌, ◌++◌, length, refl, sym, ◌∙◌, ap, subst, arith, slice_set, slice_index_or}
use Rattle.std.specs.List.{remove, insert}
use Rattle.std.specs.List.Sorted.{IsPartitionedBy, IsPartitionPoint}
use Rattle.std.proofs.lemmas.Bool.Decides.{nat_tests}
use Rattle.lock_tree.specs.Entered.{Enqueued}
use Rattle.lock_tree.specs.Locks.{AreAbove, IsRising}
use Rattle.lock_tree.specs.Views.{all_waiting}
use Rattle.lock_tree.specs.Open.{is_open, open_of, places_before, front_with, placed, AllOver, AreRising}
use Rattle.lock_tree.proofs.Places.{at}

is_less : (a k : ℕ) → a < k → nat_lt a k ≡ true
is_less a k h = grind (arith, nat_tests)

less_than : (a k : ℕ) → nat_lt a k ≡ true → a < k
less_than a k h = grind (arith, nat_tests)

no_less : (a k : ℕ) → k ≤ a → nat_lt a k ≡ false
no_less a k h = grind (arith, nat_tests)

other : (a k : ℕ) → k < a → (a == k) ≡ false
other a k h = grind (arith, nat_tests)

itself : (a k : ℕ) → a ≡ k → (a == k) ≡ true
itself a k h = grind (arith, nat_tests)

apart : (a k : ℕ) → (a ≡ k → ⊥) → (a == k) ≡ false
apart a k h = grind (arith, nat_tests)

-- ---- rising numbers

over_at : (n : ℕ) (xs : List ℕ) (i d : ℕ) → AllOver n xs → i < length xs → n < slice_index_or xs i d
over_at n [] i d over l = absurd (omega (arith, l))
over_at n (x ∷ xs) zero d over l = over.0
over_at n (x ∷ xs) (suc i) d over l = over_at n xs i d over.1 (omega (arith, l))

pub parted_numbers : (n : ℕ) (xs : List ℕ) → AreRising xs → IsPartitionedBy (λ x. nat_lt x n) xs
parted_numbers n [] rising i j d le l h = absurd (omega (arith, l))
parted_numbers n (x ∷ xs) rising zero zero d le l h = h
parted_numbers n (x ∷ xs) rising zero (suc j) d le l h =
    let above = over_at x xs j d rising.0 (omega (arith, l)) in
    let less = less_than (slice_index_or xs j d) n h in
    is_less x n (omega (arith, above, less))
parted_numbers n (x ∷ xs) rising (suc i) zero d le l h = absurd (omega (arith, le))
parted_numbers n (x ∷ xs) rising (suc i) (suc j) d le l h = parted_numbers n xs rising.1 i j d (omega (arith, le)) (omega (arith, l)) h

pub point_of_numbers : (n : ℕ) (xs : List ℕ) (i : ℕ) → i ≤ length xs → IsPartitionPoint (λ x. nat_lt x n ≡ true) (λ x. nat_lt x n ≡ false) xs i → i ≡ places_before n xs
point_of_numbers n [] i l h = omega (arith, l)
point_of_numbers n (x ∷ xs) zero l h = sym (ap (λ v. cond v (places_before n xs + 1) 0) (h.1 0 x (omega arith) (omega arith)))
point_of_numbers n (x ∷ xs) (suc i) l h =
    let rest = point_of_numbers n xs i (omega (arith, l)) (λ k d a b. h.0 (suc k) d (omega arith) (omega (arith, b)), λ k d a b. h.1 (suc k) d (omega (arith, a)) (omega (arith, b))) in
    let here : cond (nat_lt x n) (places_before n xs + 1) 0 ≡ places_before n xs + 1 = ap (λ v. cond v (places_before n xs + 1) 0) (h.0 0 x (omega arith) (omega arith)) in
    omega (arith, rest, here)

-- a number that is there
pub placed_there : (n : ℕ) (xs : List ℕ) (i d : ℕ) → i ≡ places_before n xs → i < length xs → slice_index_or xs i d ≡ n → (xs ≡ placed n true xs) × (remove xs i ≡ placed n false xs)
placed_there n [] i d is l same = absurd (omega (arith, l))
placed_there n (x ∷ xs) i d is l same =
    elim (nat_lt x n) as (λ v. nat_lt x n ≡ v → i ≡ cond v (places_before n xs + 1) 0 → (x ∷ xs ≡ cond v (x ∷ placed n true xs) (front_with n true x xs)) × (remove (x ∷ xs) i ≡ cond v (x ∷ placed n false xs) (front_with n false x xs))) [
      | true ↦ λ less is.
          let j : i ≡ suc (places_before n xs) = omega (arith, is) in
          let r = placed_there n xs (places_before n xs) d refl (omega (arith, j, l)) (sym (ap (λ k. slice_index_or (x ∷ xs) k d) j) ∙ same) in
          (ap (λ ys. x ∷ ys) r.0, ap (remove (x ∷ xs)) j ∙ ap (λ ys. x ∷ ys) r.1)
      | false ↦ λ more is.
          let e : (x == n) ≡ true = itself x n (sym (ap (λ k. slice_index_or (x ∷ xs) k d) is) ∙ same) in (
            sym (ap (λ v. cond v (x ∷ xs) (n ∷ x ∷ xs)) e),
            ap (remove (x ∷ xs)) is ∙ sym (ap (λ v. cond v xs (x ∷ xs)) e),
          )
    ] refl is

-- a number that isn't there
pub placed_new : (n : ℕ) (xs : List ℕ) (i : ℕ) → i ≡ places_before n xs → (i < length xs → (d : ℕ) → slice_index_or xs i d ≡ n → ⊥) → (insert xs i n ≡ placed n true xs) × (xs ≡ placed n false xs)
placed_new n [] i is no_one = (ap (λ j. insert [] j n) is, refl)
placed_new n (x ∷ xs) i is no_one =
    elim (nat_lt x n) as (λ v. nat_lt x n ≡ v → i ≡ cond v (places_before n xs + 1) 0 → (insert (x ∷ xs) i n ≡ cond v (x ∷ placed n true xs) (front_with n true x xs)) × (x ∷ xs ≡ cond v (x ∷ placed n false xs) (front_with n false x xs))) [
      | true ↦ λ less is.
          let j : i ≡ suc (places_before n xs) = omega (arith, is) in
          let r = placed_new n xs (places_before n xs) refl (λ l d same. no_one (omega (arith, j, l)) d (ap (λ k. slice_index_or (x ∷ xs) k d) j ∙ same)) in
          (ap (λ k. insert (x ∷ xs) k n) j ∙ ap (λ ys. x ∷ ys) r.0, ap (λ ys. x ∷ ys) r.1)
      | false ↦ λ more is.
          let e : (x == n) ≡ false = apart x n (λ same. no_one (omega (arith, is)) x (ap (λ k. slice_index_or (x ∷ xs) k x) is ∙ same)) in (
            ap (λ k. insert (x ∷ xs) k n) is ∙ sym (ap (λ v. cond v (x ∷ xs) (n ∷ x ∷ xs)) e),
            sym (ap (λ v. cond v xs (x ∷ xs)) e),
          )
    ] refl is

-- ---- open transactions

over_open : (n : ℕ) (es : List Enqueued) → AreAbove n (all_waiting es) → AllOver n (open_of es)
over_open n [] above = tt
over_open n (e ∷ es) above = elim (is_open e) as (λ v. AllOver n (cond v (e.no ∷ open_of es) (open_of es))) [
  | true ↦ (above.0, over_open n es above.1)
  | false ↦ over_open n es above.1
]

pub open_rising : (es : List Enqueued) → IsRising (all_waiting es) → AreRising (open_of es)
open_rising [] rising = tt
open_rising (e ∷ es) rising = elim (is_open e) as (λ v. AreRising (cond v (e.no ∷ open_of es) (open_of es))) [
  | true ↦ (over_open e.no es rising.0, open_rising es rising.1)
  | false ↦ open_rising es rising.1
]

pub open_few : (es : List Enqueued) → length (open_of es) ≤ length es
open_few [] = omega arith
open_few (e ∷ es) = elim (is_open e) as (λ v. length (cond v (e.no ∷ open_of es) (open_of es)) ≤ suc (length es)) [
  | true ↦ let h = open_few es in omega (arith, h)
  | false ↦ let h = open_few es in omega (arith, h)
]

pub open_end : (es : List Enqueued) (e : Enqueued) → open_of (es ++ e ∷ []) ≡ open_of es ++ cond (is_open e) (e.no ∷ []) []
open_end [] e = refl
open_end (f ∷ es) e = elim (is_open f) as (λ v. cond v (f.no ∷ open_of (es ++ e ∷ [])) (open_of (es ++ e ∷ [])) ≡ cond v (f.no ∷ open_of es) (open_of es) ++ cond (is_open e) (e.no ∷ []) []) [
  | true ↦ ap (λ xs. f.no ∷ xs) (open_end es e)
  | false ↦ open_end es e
]

placed_over : (n : ℕ) (there : Bool) (xs : List ℕ) → AllOver n xs → placed n there xs ≡ cond there (n ∷ xs) xs
placed_over n there [] over = refl
placed_over n there (x ∷ xs) over =
    let l = over.0 in
    ap (λ v. cond v (x ∷ placed n there xs) (front_with n there x xs)) (no_less x n (omega (arith, l)))
    ∙ ap (λ v. cond v (cond there (x ∷ xs) xs) (cond there (n ∷ x ∷ xs) (x ∷ xs))) (other x n l)

placed_itself : (n x : ℕ) (there : Bool) (xs : List ℕ) → x ≡ n → placed n there (x ∷ xs) ≡ cond there (n ∷ xs) xs
placed_itself n x there xs same =
    ap (λ v. cond v (x ∷ placed n there xs) (front_with n there x xs)) (no_less x n (omega (arith, same)))
    ∙ ap (λ v. cond v (cond there (x ∷ xs) xs) (cond there (n ∷ x ∷ xs) (x ∷ xs))) (itself x n same)
    ∙ ap (λ y. cond there (y ∷ xs) xs) same

placed_later : (n x : ℕ) (there : Bool) (xs : List ℕ) → x < n → placed n there (x ∷ xs) ≡ x ∷ placed n there xs
placed_later n x there xs less = ap (λ v. cond v (x ∷ placed n there xs) (front_with n there x xs)) (is_less x n less)

above_at : (n : ℕ) (es : List Enqueued) (i : ℕ) (d : Enqueued) → AreAbove n (all_waiting es) → i < length es → n < (at es i d).no
above_at n [] i d above l = absurd (omega (arith, l))
above_at n (e ∷ es) zero d above l = above.0
above_at n (e ∷ es) (suc i) d above l = above_at n es i d above.1 (omega (arith, l))

-- one transaction changes
pub open_set : (es : List Enqueued) (i n : ℕ) (d f : Enqueued) → IsRising (all_waiting es) → i < length es → (at es i d).no ≡ n → f.no ≡ n → open_of (slice_set es i f) ≡ placed n (is_open f) (open_of es)
open_set [] i n d f rising l same now = absurd (omega (arith, l))
open_set (e ∷ es) zero n d f rising l same now =
    ap (λ k. cond (is_open f) (k ∷ open_of es) (open_of es)) now
    ∙ sym (elim (is_open e) as (λ v. placed n (is_open f) (cond v (e.no ∷ open_of es) (open_of es)) ≡ cond (is_open f) (n ∷ open_of es) (open_of es)) [
      | true ↦ placed_itself n e.no (is_open f) (open_of es) same
      | false ↦ placed_over n (is_open f) (open_of es) (over_open n es (subst (λ k. AreAbove k (all_waiting es)) same rising.0))
    ])
open_set (e ∷ es) (suc i) n d f rising l same now =
    let m : i < length es = omega (arith, l) in
    let less : e.no < n = (let a = above_at e.no es i d rising.0 m in omega (arith, a, same)) in
    elim (is_open e) as (λ v. cond v (e.no ∷ open_of (slice_set es i f)) (open_of (slice_set es i f)) ≡ placed n (is_open f) (cond v (e.no ∷ open_of es) (open_of es))) [
      | true ↦ ap (λ xs. e.no ∷ xs) (open_set es i n d f rising.1 m same now) ∙ sym (placed_later n e.no (is_open f) (open_of es) less)
      | false ↦ open_set es i n d f rising.1 m same now
    ]

-- one transaction goes
pub open_removed : (es : List Enqueued) (i n : ℕ) (d : Enqueued) → IsRising (all_waiting es) → i < length es → (at es i d).no ≡ n → open_of (remove es i) ≡ placed n false (open_of es)
open_removed [] i n d rising l same = absurd (omega (arith, l))
open_removed (e ∷ es) zero n d rising l same =
    sym (elim (is_open e) as (λ v. placed n false (cond v (e.no ∷ open_of es) (open_of es)) ≡ open_of es) [
      | true ↦ placed_itself n e.no false (open_of es) same
      | false ↦ placed_over n false (open_of es) (over_open n es (subst (λ k. AreAbove k (all_waiting es)) same rising.0))
    ])
open_removed (e ∷ es) (suc i) n d rising l same =
    let m : i < length es = omega (arith, l) in
    let less : e.no < n = (let a = above_at e.no es i d rising.0 m in omega (arith, a, same)) in
    elim (is_open e) as (λ v. cond v (e.no ∷ open_of (remove es i)) (open_of (remove es i)) ≡ placed n false (cond v (e.no ∷ open_of es) (open_of es))) [
      | true ↦ ap (λ xs. e.no ∷ xs) (open_removed es i n d rising.1 m same) ∙ sym (placed_later n e.no false (open_of es) less)
      | false ↦ open_removed es i n d rising.1 m same
    ]

-- ---- where the code looks for a number

pub found_there : (n : ℕ) (xs seen : List ℕ) (i len d : ℕ) → seen ≡ xs → i ≡ places_before n seen → i < len → len ≡ length xs → d ≡ slice_index_or xs i d → d ≡ n
    → (xs ≡ placed n true xs) × (remove xs i ≡ placed n false xs)
found_there n xs seen i len d same is l all item found =
    placed_there n xs i d (is ∙ ap (places_before n) same) (omega (arith, l, all)) (sym item ∙ found)

at_any_number : (xs : List ℕ) (i d e : ℕ) → i < length xs → slice_index_or xs i d ≡ slice_index_or xs i e
at_any_number [] i d e l = absurd (omega (arith, l))
at_any_number (x ∷ xs) zero d e l = refl
at_any_number (x ∷ xs) (suc i) d e l = at_any_number xs i d e (omega (arith, l))

pub another_there : (n : ℕ) (xs seen : List ℕ) (i d : ℕ) → seen ≡ xs → i ≡ places_before n seen → d ≡ slice_index_or xs i d → (d ≡ n → ⊥)
    → (insert xs i n ≡ placed n true xs) × (xs ≡ placed n false xs)
another_there n xs seen i d same is item other =
    placed_new n xs i (is ∙ ap (places_before n) same) (λ l e here. other (item ∙ at_any_number xs i d e l ∙ here))

pub nothing_there : (n : ℕ) (xs seen : List ℕ) (i len : ℕ) → seen ≡ xs → i ≡ places_before n seen → len ≤ i → len ≡ length xs → (insert xs i n ≡ placed n true xs) × (xs ≡ placed n false xs)
nothing_there n xs seen i len same is l all = placed_new n xs i (is ∙ ap (places_before n) same) (λ m d here. absurd (omega (arith, l, all, m)))

insert_length : (xs : List ℕ) (i n : ℕ) → length (insert xs i n) ≡ suc (length xs)
insert_length [] zero n = refl
insert_length [] (suc i) n = refl
insert_length (x ∷ xs) zero n = refl
insert_length (x ∷ xs) (suc i) n = let h = insert_length xs i n in omega (arith, h)

-- there is room for a new number
pub fits_new : (xs : List ℕ) (i n len capacity : ℕ) → insert xs i n ≡ placed n true xs → len ≡ length xs → length (placed n true xs) ≤ capacity → len < capacity
fits_new xs i n len capacity is all room = let a = insert_length xs i n in let b = ap length is in omega (arith, a, b, all, room)
