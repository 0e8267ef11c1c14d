-- Transactions with the numbers of the open ones, as they change.
use Rattle.std.proofs.Common.{◌≡◌, ℕ, ◌<◌, ◌≤◌, zero, suc, true, List, [], ◌∷◌, ◌++◌, length, refl, sym, ◌∙◌, ap, subst, arith, slice_set}
use Rattle.std.specs.List.{remove}
use Rattle.lock_tree.specs.Entered.{Enqueued}
use Rattle.lock_tree.specs.Locks.{AreAbove, IsRising}
use Rattle.lock_tree.specs.Enqueues.{AreBelow}
use Rattle.lock_tree.specs.Views.{waiting_of, all_waiting}
use Rattle.lock_tree.specs.Open.{is_open, open_of, placed, AreRising}
use Rattle.lock_tree.proofs.Places.{at, rising_end}
use Rattle.lock_tree.proofs.Opens.{open_rising, open_few, open_set}

set_length : (es : List Enqueued) (i : ℕ) (f : Enqueued) → length (slice_set es i f) ≡ length es
set_length [] i f = refl
set_length (e ∷ es) zero f = refl
set_length (e ∷ es) (suc i) f = let h = set_length es i f in omega (arith, h)

pub removed_few : (es : List Enqueued) (i : ℕ) → length (remove es i) ≤ length es
removed_few [] zero = omega arith
removed_few [] (suc i) = omega arith
removed_few (e ∷ es) zero = omega arith
removed_few (e ∷ es) (suc i) = let h = removed_few es i in omega (arith, h)

pub rising_numbers : (xs : List ℕ) (es : List Enqueued) → xs ≡ open_of es → IsRising (all_waiting es) → AreRising xs
rising_numbers xs es is rising = subst AreRising (sym is) (open_rising es rising)

-- there is room to note that a transaction is open
pub room_to_note : (xs : List ℕ) (es : List Enqueued) (i capacity : ℕ) (d f : Enqueued) → xs ≡ open_of es → IsRising (all_waiting es) → i < length es → f.no ≡ (at es i d).no → length es ≤ capacity
    → is_open f ≡ true → length (placed f.no true xs) ≤ capacity
room_to_note xs es i capacity d f is rising l same room open_one =
    let e : open_of (slice_set es i f) ≡ placed f.no true xs =
    open_set es i f.no d f rising l (sym same) refl ∙ ap (λ b. placed f.no b (open_of es)) open_one ∙ ap (placed f.no true) (sym is) in
    let few = open_few (slice_set es i f) in
    let n = set_length es i f in
    let m = ap length e in
    omega (arith, few, n, m, room)

pub noted_set : (xs new : List ℕ) (es : List Enqueued) (i : ℕ) (d f : Enqueued) → xs ≡ open_of es → IsRising (all_waiting es) → i < length es → f.no ≡ (at es i d).no → new ≡ placed f.no (is_open f) xs
    → new ≡ open_of (slice_set es i f)
noted_set xs new es i d f is rising l same now = now ∙ ap (placed f.no (is_open f)) is ∙ sym (open_set es i f.no d f rising l (sym same) refl)

pub set_few : (es : List Enqueued) (i capacity : ℕ) (f : Enqueued) → length es ≤ capacity → length (slice_set es i f) ≤ capacity
set_few es i capacity f l = let n = set_length es i f in omega (arith, n, l)

above_set : (a : ℕ) (es : List Enqueued) (i : ℕ) (d f : Enqueued) → i < length es → f.no ≡ (at es i d).no → AreAbove a (all_waiting es) → AreAbove a (all_waiting (slice_set es i f))
above_set a [] i d f l same above = tt
above_set a (e ∷ es) zero d f l same above = (let m = above.0 in omega (arith, m, same), above.1)
above_set a (e ∷ es) (suc i) d f l same above = (above.0, above_set a es i d f (omega (arith, l)) same above.1)

-- numbers rise on where all else changes
pub rising_set : (es : List Enqueued) (i : ℕ) (d f : Enqueued) → i < length es → f.no ≡ (at es i d).no → IsRising (all_waiting es) → IsRising (all_waiting (slice_set es i f))
rising_set [] i d f l same rising = tt
rising_set (e ∷ es) zero d f l same rising = (subst (λ n. AreAbove n (all_waiting es)) (sym same) rising.0, rising.1)
rising_set (e ∷ es) (suc i) d f l same rising = (above_set e.no es i d f (omega (arith, l)) same rising.0, rising_set es i d f (omega (arith, l)) same rising.1)

pub waiting_end : (es : List Enqueued) (e : Enqueued) → all_waiting (es ++ e ∷ []) ≡ all_waiting es ++ waiting_of e ∷ []
waiting_end [] e = refl
waiting_end (f ∷ es) e = ap (λ ws. waiting_of f ∷ ws) (waiting_end es e)

pub below_end : (es : List Enqueued) (e : Enqueued) → AreBelow e.no (all_waiting es) → IsRising (all_waiting es) → IsRising (all_waiting (es ++ e ∷ []))
below_end es e below rising = subst IsRising (sym (waiting_end es e)) (rising_end (all_waiting es) (waiting_of e) rising below)

above_removed : (a : ℕ) (es : List Enqueued) (i : ℕ) → AreAbove a (all_waiting es) → AreAbove a (all_waiting (remove es i))
above_removed a [] zero above = tt
above_removed a [] (suc i) above = tt
above_removed a (e ∷ es) zero above = above.1
above_removed a (e ∷ es) (suc i) above = (above.0, above_removed a es i above.1)

pub removed_rising : (es : List Enqueued) (i : ℕ) → IsRising (all_waiting es) → IsRising (all_waiting (remove es i))
removed_rising [] zero rising = tt
removed_rising [] (suc i) rising = tt
removed_rising (e ∷ es) zero rising = rising.1
removed_rising (e ∷ es) (suc i) rising = (above_removed e.no es i rising.0, removed_rising es i rising.1)

pub end_length : (es : List Enqueued) (e : Enqueued) → length (es ++ e ∷ []) ≡ suc (length es)
end_length [] e = refl
end_length (f ∷ es) e = let h = end_length es e in omega (arith, h)
