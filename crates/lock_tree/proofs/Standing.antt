-- Where a transaction's request stands, and what its leaving changes.
use Rattle.std.proofs.Common.{◌≡◌, ℕ, ◌+◌, ◌<◌, ◌≤◌, ◌==◌, zero, suc, nat_lt, Bool, true, false, cond, not, ◌||◌, List, [], ◌∷◌, ◌++◌, length, take, get_or, refl, sym, ◌∙◌, ap, subst, arith}
use Rattle.std.specs.List.{remove}
use Rattle.std.specs.List.Sorted.{IsPartitionedBy, IsPartitionPoint}
use Rattle.std.specs.Prelude.{Some, slice_get}
use Rattle.std.proofs.lemmas.Bool.Decides.{nat_tests}
use Rattle.modes.specs.declared.mode.Mode.{Mode}
use Rattle.modes.specs.declared.mode.Mode.TheVariants.{IntentionShared, IntentionExclusive, Shared, SharedIntentionExclusive, Exclusive}
use Rattle.lock_tree.specs.Queues.{Queue, granted, has_number}
use Rattle.lock_tree.specs.Lines.{others, numbers_of, modes_of, AllUnder}
use Rattle.lock_tree.specs.Held.{is_mode, times}
use Rattle.lock_tree.specs.Open.{places_before, AllOver, AreRising}
use Rattle.lock_tree.proofs.Leaving.{granted_length, granted_front, stay_within, granted_grows, newly}

-- ---- rising numbers

over_end : (n k : ℕ) (xs : List ℕ) → AllOver n xs → n < k → AllOver n (xs ++ k ∷ [])
over_end n k [] o l = (l, tt)
over_end n k (x ∷ xs) o l = (o.0, over_end n k xs o.1 l)

rising_numbers : (xs : List ℕ) (k : ℕ) → AreRising xs → AllUnder k xs → AreRising (xs ++ k ∷ [])
rising_numbers [] k r u = (tt, tt)
rising_numbers (x ∷ xs) k r u = (over_end x k xs r.0 u.0, rising_numbers xs k r.1 u.1)

numbers_end : (q : Queue) (x : ℕ × Mode) → numbers_of (q ++ x ∷ []) ≡ numbers_of q ++ x.0 ∷ []
numbers_end [] x = refl
numbers_end (y ∷ q) x = ap (λ xs. y.0 ∷ xs) (numbers_end q x)

pub rising_longer : (q : Queue) (x : ℕ × Mode) → AreRising (numbers_of q) → AllUnder x.0 (numbers_of q) → AreRising (numbers_of (q ++ x ∷ []))
rising_longer q x r u = subst AreRising (sym (numbers_end q x)) (rising_numbers (numbers_of q) x.0 r u)

over_others : (n k : ℕ) (q : Queue) → AllOver n (numbers_of q) → AllOver n (numbers_of (others k q))
over_others n k [] o = tt
over_others n k (x ∷ q) o = elim (x.0 == k) as (λ v. AllOver n (numbers_of (cond (not v) (x ∷ others k q) (others k q)))) [
  | true ↦ over_others n k q o.1
  | false ↦ (o.0, over_others n k q o.1)
]

pub rising_others : (k : ℕ) (q : Queue) → AreRising (numbers_of q) → AreRising (numbers_of (others k q))
rising_others k [] r = tt
rising_others k (x ∷ q) r = elim (x.0 == k) as (λ v. AreRising (numbers_of (cond (not v) (x ∷ others k q) (others k q)))) [
  | true ↦ rising_others k q r.1
  | false ↦ (over_others x.0 k q r.0, rising_others k q r.1)
]

-- ---- where a number stands

is_less : (a k : ℕ) → a < k → nat_lt a k ≡ true
is_less a k h = grind (arith, nat_tests)

less_than : (a k : ℕ) → nat_lt a k ≡ true → a < k
less_than a k h = grind (arith, nat_tests)

itself : (a k : ℕ) → a ≡ k → (a == k) ≡ true
itself a k h = grind (arith, nat_tests)

apart : (a k : ℕ) → (a ≡ k → ⊥) → (a == k) ≡ false
apart a k h = grind (arith, nat_tests)

over_at : (n : ℕ) (q : Queue) (i : ℕ) (d : ℕ × Mode) → AllOver n (numbers_of q) → i < length q → n < (get_or q i d).0
over_at n [] i d over l = absurd (omega arith)
over_at n (x ∷ q) zero d over l = over.0
over_at n (x ∷ q) (suc i) d over l = over_at n q i d over.1 (omega arith)

pub parted_requests : (n : ℕ) (q : Queue) → AreRising (numbers_of q) → IsPartitionedBy (λ (x : ℕ × Mode). nat_lt x.0 n) q
parted_requests n [] rising i j d le l h = absurd (omega arith)
parted_requests n (x ∷ q) rising zero zero d le l h = h
parted_requests n (x ∷ q) rising zero (suc j) d le l h =
    let above = over_at x.0 q j d rising.0 (omega arith) in let less = less_than (get_or q j d).0 n h in is_less x.0 n (omega (arith, above, less))
parted_requests n (x ∷ q) rising (suc i) zero d le l h = absurd (omega arith)
parted_requests n (x ∷ q) rising (suc i) (suc j) d le l h = parted_requests n q rising.1 i j d (omega arith) (omega arith) h

pub point_of_requests : (n : ℕ) (q : Queue) (i : ℕ) → i ≤ length q → IsPartitionPoint (λ (x : ℕ × Mode). nat_lt x.0 n ≡ true) (λ x. nat_lt x.0 n ≡ false) q i → i ≡ places_before n (numbers_of q)
point_of_requests n [] i l h = omega arith
point_of_requests n (x ∷ q) zero l h = sym (ap (λ v. cond v (places_before n (numbers_of q) + 1) 0) (h.1 0 x (omega arith) (omega arith)))
point_of_requests n (x ∷ q) (suc i) l h =
    let rest = point_of_requests n q i (omega arith) (λ k d a b. h.0 (suc k) d (omega arith) (omega arith), λ k d a b. h.1 (suc k) d (omega arith) (omega arith)) in
    let here : cond (nat_lt x.0 n) (places_before n (numbers_of q) + 1) 0 ≡ places_before n (numbers_of q) + 1 = ap (λ v. cond v (places_before n (numbers_of q) + 1) 0) (h.0 0 x (omega arith) (omega arith)) in
    omega (arith, rest, here)

-- ---- a transaction that leaves

pub nobody_leaves : (k : ℕ) (q : Queue) → ((i : ℕ) (d : ℕ × Mode) → i < length q → (get_or q i d).0 ≡ k → ⊥) → others k q ≡ q
nobody_leaves k [] h = refl
nobody_leaves k (x ∷ q) h = ap (λ v. cond (not v) (x ∷ others k q) (others k q)) (apart x.0 k (h 0 x (omega arith))) ∙ ap (λ xs. x ∷ xs) (nobody_leaves k q (λ i d near. h (suc i) d (omega arith)))

over_leaves : (k : ℕ) (q : Queue) → AllOver k (numbers_of q) → others k q ≡ q
over_leaves k q over = nobody_leaves k q (λ i d near same. let l = over_at k q i d over near in absurd (omega arith))

pub one_leaves : (k : ℕ) (q : Queue) (i : ℕ) (d : ℕ × Mode) → AreRising (numbers_of q) → i < length q → (get_or q i d).0 ≡ k → others k q ≡ remove q i
one_leaves k [] i d rising near same = absurd (omega arith)
one_leaves k (x ∷ q) zero d rising near same = ap (λ v. cond (not v) (x ∷ others k q) (others k q)) (itself x.0 k same) ∙ over_leaves k q (subst (λ (n : ℕ). AllOver n (numbers_of q)) same rising.0)
one_leaves k (x ∷ q) (suc i) d rising near same =
    let above = over_at x.0 q i d rising.0 (omega arith) in
    ap (λ v. cond (not v) (x ∷ others k q) (others k q)) (apart x.0 k (λ e. absurd (omega (arith, above, same, e)))) ∙ ap (λ xs. x ∷ xs) (one_leaves k q i d rising.1 (omega arith) same)

-- a number that stands before or after all others
pub rising_at : (q : Queue) (i j : ℕ) (d e : ℕ × Mode) → AreRising (numbers_of q) → i < j → j < length q → (get_or q i d).0 < (get_or q j e).0
rising_at [] i j d e r lt near = absurd (omega arith)
rising_at (x ∷ q) i zero d e r lt near = absurd (omega arith)
rising_at (x ∷ q) zero (suc j) d e r lt near = over_at x.0 q j e r.0 (omega arith)
rising_at (x ∷ q) (suc i) (suc j) d e r lt near = rising_at q i j d e r.1 (omega arith) (omega arith)

take_at : (n : ℕ) (q : Queue) (i : ℕ) (d : ℕ × Mode) → i < n → get_or (take n q) i d ≡ get_or q i d
take_at zero q i d lt = absurd (omega arith)
take_at (suc n) [] i d lt = refl
take_at (suc n) (x ∷ q) zero d lt = refl
take_at (suc n) (x ∷ q) (suc i) d lt = take_at n q i d (omega arith)

take_rising : (n : ℕ) (q : Queue) → AreRising (numbers_of q) → AreRising (numbers_of (take n q))
take_rising zero q r = tt
take_rising (suc n) [] r = tt
take_rising (suc n) (x ∷ q) r = (take_over x.0 n q r.0, take_rising n q r.1)
  where
    take_over : (a n : ℕ) (q : Queue) → AllOver a (numbers_of q) → AllOver a (numbers_of (take n q))
    take_over a zero q o = tt
    take_over a (suc n) [] o = tt
    take_over a (suc n) (x ∷ q) o = (o.0, take_over a n q o.1)

removed_length : (q : Queue) (i : ℕ) → i < length q → length (remove q i) + 1 ≡ length q
removed_length [] i near = absurd (omega arith)
removed_length (x ∷ q) zero near = omega arith
removed_length (x ∷ q) (suc i) near = let h = removed_length q i (omega arith) in omega arith

-- who is granted but not the one at a place stays; if it was granted, there is one less
pub leaves_front : (k : ℕ) (q : Queue) (i : ℕ) (d : ℕ × Mode) → AreRising (numbers_of q) → i < length q → (get_or q i d).0 ≡ k → i < length (granted q)
    → (others k (granted q) ≡ remove (granted q) i) × (length (others k (granted q)) + 1 ≡ length (granted q)) × (get_or (granted q) i d ≡ get_or q i d)
leaves_front k q i d rising near same within =
    let front = granted_front q in let at : get_or (granted q) i d ≡ get_or q i d = sym (ap (λ xs. get_or xs i d) front) ∙ take_at (length (granted q)) q i d within in
    let is = one_leaves k (granted q) i d (subst (λ (xs : Queue). AreRising (numbers_of xs)) front (take_rising (length (granted q)) q rising)) within (ap (λ x. x.0) at ∙ same) in
    (is, ap (λ xs. length xs + 1) is ∙ removed_length (granted q) i within, at)

pub stays_front : (k : ℕ) (q : Queue) (i : ℕ) (d : ℕ × Mode) → AreRising (numbers_of q) → i < length q → (get_or q i d).0 ≡ k → length (granted q) ≤ i → others k (granted q) ≡ granted q
stays_front k q i d rising near same late = nobody_leaves k (granted q) (λ j e l is.
    let at : get_or (granted q) j e ≡ get_or q j e = sym (ap (λ xs. get_or xs j e) (granted_front q)) ∙ take_at (length (granted q)) q j e l in
    let less = rising_at q j i e d rising (omega arith) near in let there : (get_or q j e).0 ≡ k = ap (λ x. x.0) (sym at) ∙ is in absurd (omega (arith, less, there, same)))

pub nobody_fronts : (k : ℕ) (q : Queue) → ((i : ℕ) (d : ℕ × Mode) → i < length q → (get_or q i d).0 ≡ k → ⊥) → others k (granted q) ≡ granted q
nobody_fronts k q h = nobody_leaves k (granted q) (λ j e l is.
    let few = granted_length q in h j e (omega arith) (ap (λ x. x.0) (sym (sym (ap (λ xs. get_or xs j e) (granted_front q)) ∙ take_at (length (granted q)) q j e l)) ∙ is))

-- the others who were granted are a front of the others
take_appended : (xs ys : Queue) → take (length xs) (xs ++ ys) ≡ xs
take_appended [] ys = refl
take_appended (x ∷ xs) ys = ap (λ zs. x ∷ zs) (take_appended xs ys)

take_twice : (n m : ℕ) (q : Queue) → n ≤ m → take n (take m q) ≡ take n q
take_twice zero m q le = refl
take_twice (suc n) zero q le = absurd (omega arith)
take_twice (suc n) (suc m) [] le = refl
take_twice (suc n) (suc m) (x ∷ q) le = ap (λ zs. x ∷ zs) (take_twice n m q (omega arith))

pub stay_front : (k : ℕ) (q : Queue) → take (length (others k (granted q))) (others k q) ≡ others k (granted q)
stay_front k q = sym (take_twice (length (others k (granted q))) (length (granted (others k q))) (others k q) (stay_within k q))
    ∙ ap (take (length (others k (granted q)))) (granted_front (others k q) ∙ granted_grows k q) ∙ take_appended (others k (granted q)) (newly k q)

pub times_removed : (m : Mode) (q : Queue) (i : ℕ) (d : ℕ × Mode) → i < length q → times m (modes_of q) ≡ times m ((get_or q i d).1 ∷ modes_of (remove q i))
times_removed m [] i d near = absurd (omega arith)
times_removed m (x ∷ q) zero d near = refl
times_removed m (x ∷ q) (suc i) d near = ap (λ (t : ℕ). cond (is_mode m x.1) (t + 1) t) (times_removed m q i d (omega arith)) ∙ bring (is_mode m x.1) (is_mode m (get_or q i d).1) (times m (modes_of (remove q i)))
  where
    bring : (a b : Bool) (t : ℕ) → cond a (cond b (t + 1) t + 1) (cond b (t + 1) t) ≡ cond b (cond a (t + 1) t + 1) (cond a (t + 1) t)
    bring true true t = refl
    bring true false t = refl
    bring false true t = refl
    bring false false t = refl

-- how many numbers are less than one that is there
pub places_of : (k : ℕ) (q : Queue) (j : ℕ) (d : ℕ × Mode) → AreRising (numbers_of q) → j < length q → (get_or q j d).0 ≡ k → places_before k (numbers_of q) ≡ j
places_of k [] j d rising near same = absurd (omega arith)
places_of k (x ∷ q) zero d rising near same = ap (λ v. cond v (places_before k (numbers_of q) + 1) 0) (no_less x.0 k (omega arith))
  where
    no_less : (a b : ℕ) → b ≤ a → nat_lt a b ≡ false
    no_less a b h = grind (arith, nat_tests)
places_of k (x ∷ q) (suc j) d rising near same =
    let above = over_at x.0 q j d rising.0 (omega arith) in let rest = places_of k q j d rising.1 (omega arith) same in
    ap (λ v. cond v (places_before k (numbers_of q) + 1) 0) (is_less x.0 k (omega (arith, above, same))) ∙ (omega (arith, rest))

-- where a number's place is after all lesser ones, and another stands there, it is nowhere
pub nowhere : (k : ℕ) (q : Queue) (i : ℕ) → AreRising (numbers_of q) → i ≡ places_before k (numbers_of q) → (i < length q → (d : ℕ × Mode) → (get_or q i d).0 ≡ k → ⊥)
    → (j : ℕ) (d : ℕ × Mode) → j < length q → (get_or q j d).0 ≡ k → ⊥
nowhere k q i rising is other j d near same = let at : j ≡ i = sym (places_of k q j d rising near same) ∙ sym is in
    other (subst (λ (n : ℕ). n < length q) at near) d (subst (λ (n : ℕ). (get_or q n d).0 ≡ k) at same)

-- ---- who is granted

pub has_front : (k : ℕ) (q : Queue) (i : ℕ) (d : ℕ × Mode) → i < length (granted q) → (get_or q i d).0 ≡ k → has_number k (granted q) ≡ true
has_front k q i d within same = go (granted q) i within (ap (λ x. x.0) (sym (ap (λ xs. get_or xs i d) (granted_front q)) ∙ take_at (length (granted q)) q i d within) ∙ same)
  where
    go : (xs : Queue) (i : ℕ) → i < length xs → (get_or xs i d).0 ≡ k → has_number k xs ≡ true
    go [] i within same = absurd (omega arith)
    go (x ∷ xs) zero within same = ap (λ v. v || has_number k xs) (itself x.0 k same)
    go (x ∷ xs) (suc i) within same = last (x.0 == k) (has_number k xs) (go xs i (omega arith) same)
      where
        last : (a b : Bool) → b ≡ true → (a || b) ≡ true
        last true b e = refl
        last false b e = e

pub has_not : (k : ℕ) (xs : Queue) → ((i : ℕ) (d : ℕ × Mode) → i < length xs → (get_or xs i d).0 ≡ k → ⊥) → has_number k xs ≡ false
has_not k [] h = refl
has_not k (x ∷ xs) h = ap (λ v. v || has_number k xs) (apart x.0 k (h 0 x (omega arith))) ∙ has_not k xs (λ i d near. h (suc i) d (omega arith))

-- what is granted at a place
pub front_at : (q : Queue) (i : ℕ) (d : ℕ × Mode) → i < length (granted q) → slice_get (granted q) i ≡ Some (get_or q i d)
front_at q i d within = at_some (granted q) i d within ∙ ap (λ (x : ℕ × Mode). Some x) (sym (ap (λ xs. get_or xs i d) (granted_front q)) ∙ take_at (length (granted q)) q i d within)
  where
    at_some : (xs : Queue) (i : ℕ) (d : ℕ × Mode) → i < length xs → slice_get xs i ≡ Some (get_or xs i d)
    at_some [] i d l = absurd (omega arith)
    at_some (x ∷ xs) zero d l = refl
    at_some (x ∷ xs) (suc i) d l = at_some xs i d (omega arith)

pub any_default : (q : Queue) (i : ℕ) (d e : ℕ × Mode) → i < length q → get_or q i d ≡ get_or q i e
any_default [] i d e l = absurd (omega arith)
any_default (y ∷ q) zero d e l = refl
any_default (y ∷ q) (suc i) d e l = any_default q i d e (omega arith)

-- whether a transaction's request is granted, by the request at its place
pub granted_there : (k : ℕ) (q : Queue) (i : ℕ) (x : ℕ × Mode) → AreRising (numbers_of q) → i ≡ places_before k (numbers_of q) → i < length (granted q) → x ≡ get_or q i x → (x.0 == k) ≡ has_number k (granted q)
granted_there k q i x rising is within at = go (x.0 == k) refl
  where
    yes_number : (a b : ℕ) → (a == b) ≡ true → a ≡ b
    yes_number a b h = grind (arith, nat_tests)

    no_number : (a b : ℕ) → (a == b) ≡ false → a ≡ b → ⊥
    no_number a b h e = let t : (a == b) ≡ true = grind (arith, nat_tests) in absurd (cc)

    other_there : (d : ℕ × Mode) → get_or q i d ≡ x
    other_there d = any_default q i d x (let few = granted_length q in omega (arith, few, within)) ∙ sym at

    go : (v : Bool) → (x.0 == k) ≡ v → (x.0 == k) ≡ has_number k (granted q)
    go true e = e ∙ sym (has_front k q i x within (ap (λ y. y.0) (sym at) ∙ yes_number x.0 k e))
    go false e = e ∙ sym (has_not k (granted q) (λ j d l same.
        let few = granted_length q in nowhere k q i rising is (λ near d2 h. no_number x.0 k e (ap (λ y. y.0) (sym (other_there d2)) ∙ h)) j d (omega (arith, few, l))
        (ap (λ y. y.0) (sym (sym (ap (λ xs. get_or xs j d) (granted_front q)) ∙ take_at (length (granted q)) q j d l)) ∙ same)))

-- a transaction whose place is after what is granted has no request that is granted
pub granted_nowhere : (k : ℕ) (q : Queue) (i : ℕ) → AreRising (numbers_of q) → i ≡ places_before k (numbers_of q) → length (granted q) ≤ i → has_number k (granted q) ≡ false
granted_nowhere k q i rising is late = has_not k (granted q) (λ j d l same.
    let few = granted_length q in let at = ap (λ y. y.0) (sym (sym (ap (λ xs. get_or xs j d) (granted_front q)) ∙ take_at (length (granted q)) q j d l)) ∙ same in
    let there = places_of k q j d rising (omega (arith, few, l)) at in absurd (omega (arith, is, there, late, l)))

same_mode : (m : Mode) → is_mode m m ≡ true
same_mode IntentionShared = refl
same_mode IntentionExclusive = refl
same_mode Shared = refl
same_mode SharedIntentionExclusive = refl
same_mode Exclusive = refl

-- the mode of a request is there
pub times_there : (q : Queue) (i : ℕ) (d : ℕ × Mode) → i < length q → 0 < times (get_or q i d).1 (modes_of q)
times_there q i d near =
    let m : Mode = (get_or q i d).1 in
    let rest : ℕ = times m (modes_of (remove q i)) in
    let e : times m (modes_of q) ≡ rest + 1 = times_removed m q i d near ∙ ap (λ v. cond v (rest + 1) rest) (same_mode m) in
    omega (arith, e)
