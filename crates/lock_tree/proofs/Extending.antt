-- How far a front of requests reaches.
use Rattle.std.proofs.Common.{◌≡◌, ℕ, ◌+◌, ◌<◌, ◌≤◌, zero, suc, nat_lt, Bool, true, false, cond, ◌&&◌, List, [], ◌∷◌, ◌++◌, length, take, get_or, refl, sym, ◌∙◌, ap, subst, arith}
use Rattle.std.specs.List.{list_all}
use Rattle.std.proofs.lemmas.Bool.Decides.{nat_tests}
use Rattle.modes.specs.declared.mode.Mode.{Mode}
use Rattle.modes.specs.Modes.{are_compatible}
use Rattle.lock_tree.specs.Queues.{Queue, granted_beside, granted}
use Rattle.lock_tree.specs.Lines.{modes_of}
use Rattle.lock_tree.specs.Held.{is_mode, times}
use Rattle.lock_tree.proofs.Leaving.{granted_length, granted_front}

-- ---- one more request

both_false : (a : Bool) → (a && false) ≡ false
both_false true = refl
both_false false = refl

swapped : (a b c : Bool) → ((a && b) && c) ≡ (b && (a && c))
swapped true b c = refl
swapped false b c = sym (both_false b)

-- the request after a front that is granted is granted exactly where it is compatible with all before it
step_fits : (held : List Mode) (q : Queue) (n : ℕ) (d : ℕ × Mode) → n < length q → n ≤ length (granted_beside held q)
    → nat_lt n (length (granted_beside held q)) ≡ (list_all (λ h. are_compatible h (get_or q n d).1) held && list_all (λ h. are_compatible h (get_or q n d).1) (modes_of (take n q)))
step_fits held [] n d near le = absurd (omega arith)
step_fits held (x ∷ q) zero d near le = elim (list_all (λ h. are_compatible h x.1) held) as (λ v. nat_lt 0 (length (cond v (x ∷ granted_beside (x.1 ∷ held) q) [])) ≡ (v && true)) [
  | true ↦ grind (arith, nat_tests)
  | false ↦ grind (arith, nat_tests)
]
step_fits held (x ∷ q) (suc n) d near le = go (list_all (λ h. are_compatible h x.1) held) (step_fits (x.1 ∷ held) q n d (omega arith)) le
  where
    c : Mode
    c = (get_or q n d).1

    go : (v : Bool) → (n ≤ length (granted_beside (x.1 ∷ held) q)
        → nat_lt n (length (granted_beside (x.1 ∷ held) q)) ≡ ((are_compatible x.1 (get_or q n d).1 && list_all (λ h. are_compatible h (get_or q n d).1) held) && list_all (λ h. are_compatible h (get_or q n d).1) (modes_of (take n q))))
        → suc n ≤ length (cond v (x ∷ granted_beside (x.1 ∷ held) q) [])
        → nat_lt (suc n) (length (cond v (x ∷ granted_beside (x.1 ∷ held) q) []))
        ≡ (list_all (λ h. are_compatible h (get_or q n d).1) held && (are_compatible x.1 (get_or q n d).1 && list_all (λ h. are_compatible h (get_or q n d).1) (modes_of (take n q))))
    go true ih le = let e : nat_lt (suc n) (suc (length (granted_beside (x.1 ∷ held) q))) ≡ nat_lt n (length (granted_beside (x.1 ∷ held) q)) = later n (length (granted_beside (x.1 ∷ held) q)) in
        e ∙ ih (omega arith) ∙ swapped (are_compatible x.1 (get_or q n d).1) (list_all (λ h. are_compatible h (get_or q n d).1) held) (list_all (λ h. are_compatible h (get_or q n d).1) (modes_of (take n q)))
      where
        later : (a b : ℕ) → nat_lt (suc a) (suc b) ≡ nat_lt a b
        later a b = grind (arith, nat_tests)
    go false ih le = absurd (omega arith)

pub next_fits : (q : Queue) (n : ℕ) (d : ℕ × Mode) → n < length q → n ≤ length (granted q) → list_all (λ h. are_compatible h (get_or q n d).1) (modes_of (take n q)) ≡ true → n < length (granted q)
next_fits q n d near le fits = let e = step_fits [] q n d near le ∙ fits in grind (arith, nat_tests, e)

pub next_bars : (q : Queue) (n : ℕ) (d : ℕ × Mode) → n < length q → n ≤ length (granted q) → list_all (λ h. are_compatible h (get_or q n d).1) (modes_of (take n q)) ≡ false → n ≡ length (granted q)
next_bars q n d near le bars = let e = step_fits [] q n d near le ∙ bars in let no_less : length (granted q) ≤ n = grind (arith, nat_tests, e) in omega (arith, le, no_less)

-- ---- the modes of a front

pub times_more : (m : Mode) (q : Queue) (n k : ℕ) (d : ℕ × Mode) → n < length q → k ≡ suc n → times m (modes_of (take k q)) ≡ times m ((get_or q n d).1 ∷ modes_of (take n q))
times_more m q n k d near is = ap (λ (j : ℕ). times m (modes_of (take j q))) is ∙ go q n near
  where
    bring : (a b : Bool) (t : ℕ) → cond a (cond b (t + 1) t + 1) (cond b (t + 1) t) ≡ cond b (cond a (t + 1) t + 1) (cond a (t + 1) t)
    bring true true t = refl
    bring true false t = refl
    bring false true t = refl
    bring false false t = refl

    go : (q : Queue) (n : ℕ) → n < length q → times m (modes_of (take (suc n) q)) ≡ times m ((get_or q n d).1 ∷ modes_of (take n q))
    go [] n near = absurd (omega arith)
    go (x ∷ q) zero near = refl
    go (x ∷ q) (suc n) near = ap (λ (t : ℕ). cond (is_mode m x.1) (t + 1) t) (go q n (omega arith)) ∙ bring (is_mode m x.1) (is_mode m (get_or q n d).1) (times m (modes_of (take n q)))

-- ---- a request at the end

pub granted_end : (held : List Mode) (q : Queue) (x : ℕ × Mode) → (rest : Queue) × (granted_beside held (q ++ x ∷ []) ≡ granted_beside held q ++ rest)
granted_end held [] x = (granted_beside held (x ∷ []), refl)
granted_end held (y ∷ q) x = elim (list_all (λ h. are_compatible h y.1) held) as (λ v. (rest : Queue) × (cond v (y ∷ granted_beside (y.1 ∷ held) (q ++ x ∷ [])) [] ≡ cond v (y ∷ granted_beside (y.1 ∷ held) q) [] ++ rest)) [
  | true ↦ let r = granted_end (y.1 ∷ held) q x in (r.0, ap (λ xs. y ∷ xs) r.1)
  | false ↦ ([], refl)
]

append_longer : (xs ys : Queue) → length xs ≤ length (xs ++ ys)
append_longer [] ys = omega arith
append_longer (x ∷ xs) ys = let h = append_longer xs ys in omega (arith, h)

take_longer : (n : ℕ) (q ys : Queue) → n ≤ length q → take n (q ++ ys) ≡ take n q
take_longer zero q ys le = refl
take_longer (suc n) [] ys le = absurd (omega arith)
take_longer (suc n) (x ∷ q) ys le = ap (λ xs. x ∷ xs) (take_longer n q ys (omega arith))

pub front_longer : (q : Queue) (x : ℕ × Mode) → (length (granted q) ≤ length (granted (q ++ x ∷ []))) × (take (length (granted q)) (q ++ x ∷ []) ≡ granted q)
front_longer q x = let r = granted_end [] q x in (
  subst (λ (xs : Queue). length (granted q) ≤ length xs) (sym r.1) (append_longer (granted q) r.0),
  take_longer (length (granted q)) q (x ∷ []) (granted_length q) ∙ granted_front q,
)
