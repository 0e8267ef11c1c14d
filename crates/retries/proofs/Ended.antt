-- After the batches that close a log nothing is carried.
use Rattle.std.proofs.Common.{◌≡◌, ℕ, zero, suc, ◌+◌, ◌≤◌, ◌<◌, false, List, [], ◌∷◌, ◌++◌, Some, slice_get, length, refl, sym, ap, ◌∙◌, subst, arith}
use Rattle.std.specs.List.{AllByRecursion, Contains}
use Rattle.values.specs.Database.{Database}
use Rattle.requests.specs.Requests.{Call}
use Rattle.meaning.specs.Entries.{stale}
use Rattle.sequencer.specs.Attempts.{Attempt, again, attempts_of, carried_on, tries_of}
use Rattle.sequencer.specs.declared.attempts.Carried.{Carried}
use Rattle.sequencer.specs.Again.{IsTriedAgain}
use Rattle.sequencer.proofs.TriedAgain.{each_is_left, left_is_tried_again}
use Rattle.retries.specs.Standings.{Standing, start_of, attempts_at, replies_at, after_batch, after_batches, while_carried, closing, closing_within, closed}
use Rattle.retries.proofs.Followed.{after_batches-append}
use Rattle.retries.proofs.Few.{all_of, AreFew, few, left_few}

-- so many more attempts are too many for each carried request
abbrev AreTried : ℕ → ℕ → List Carried → Type 0
AreTried retries more carried = AllByRecursion (λ one. (retries < one.tries + more) × (one.tries ≤ retries)) carried

some_is : {A : Type 0} (x y : A) → Some x ≡ Some y → x ≡ y
some_is x y h = cc

-- what holds of each carried request holds at a place among their attempts
at_place : (holds : ℕ → Type 0) (carried : List Carried) → AllByRecursion (λ one. holds one.tries) carried → (place : ℕ) (attempt : Attempt)
    → slice_get (attempts_of carried []) place ≡ Some attempt → holds (tries_of attempt.before)
at_place holds [] h place attempt e = absurd cc
at_place holds (one ∷ carried) h zero attempt e = subst (λ (a : Attempt). holds (tries_of a.before)) (some_is (again one) attempt e) h.0
at_place holds (one ∷ carried) h (suc place) attempt e = at_place holds carried h.1 place attempt e

-- a batch without calls tries each once more
tried_more : (retries more : ℕ) (s : Standing) → AreTried retries (suc more) s.carried → AreTried retries more (after_batch retries s []).carried
tried_more retries more s h =
    all_of (IsTriedAgain retries s.next (attempts_at s []) (replies_at s [])) (λ (one : Carried). (retries < one.tries + more) × (one.tries ≤ retries))
    (λ one again.
    let few = again.few in
    let tries = again.tries in
    let before : (retries < tries_of again.attempt.before + suc more) × (tries_of again.attempt.before ≤ retries) =
    at_place (λ tries. (retries < tries + suc more) × (tries ≤ retries)) s.carried h again.place again.attempt again.tried in
    (omega (arith, before.0), omega arith))
    (after_batch retries s []).carried (left_is_tried_again retries s.next (attempts_at s []) (replies_at s []))

none_more : (retries : ℕ) (carried : List Carried) → AreTried retries 0 carried → carried ≡ []
none_more retries [] h = refl
none_more retries (one ∷ carried) h = let both = h.0 in absurd (omega (arith, both.0, both.1))

abbrev Ends : ℕ → Standing → List (List Call) → Type 0
Ends retries s batches = (after_batches retries s batches).carried ≡ []

while_ends : (retries : ℕ) (s : Standing) (carried : List Carried) (rest : List (List Call)) → s.carried ≡ carried → Ends retries (after_batch retries s []) rest
    → Ends retries s (while_carried carried rest)
while_ends retries s [] rest e h = e
while_ends retries s (c ∷ cs) rest e h = h

closing_ends : (retries most : ℕ) (s : Standing) → AreTried retries most s.carried → Ends retries s (closing_within retries most s)
closing_ends retries zero s h = none_more retries s.carried h
closing_ends retries (suc most) s h =
    while_ends retries s s.carried (closing_within retries most (after_batch retries s [])) refl (closing_ends retries most (after_batch retries s []) (tried_more retries most s h))

from_few : (retries : ℕ) (carried : List Carried) → AreFew retries carried → AreTried retries retries carried
from_few retries carried h =
    all_of (λ (one : Carried). (1 ≤ one.tries) × (one.tries ≤ retries)) (λ (one : Carried). (retries < one.tries + retries) × (one.tries ≤ retries))
    (λ one both. (omega (arith, both.0), both.1)) carried h

closed_ends : (retries : ℕ) (s : Standing) (batches : List (List Call)) → AreFew retries s.carried → Ends retries s (closed retries false s batches)
closed_ends retries s [] h = closing_ends retries retries s (from_few retries s.carried h)
closed_ends retries s (calls ∷ batches) h = closed_ends retries (after_batch retries s calls) batches (left_few retries s calls)

-- ---- closing batch by batch

-- where nothing is carried, no batch closes a log, however many might
pub none_closing : (retries most : ℕ) (s : Standing) → s.carried ≡ [] → closing_within retries most s ≡ []
none_closing retries zero s h = refl
none_closing retries (suc most) s h = ap (λ (carried : List Carried). while_carried carried (closing_within retries most (after_batch retries s []))) h

-- more batches that might close a log change nothing where fewer are enough
enough : (retries most extra : ℕ) (s : Standing) → AreTried retries most s.carried → closing_within retries (most + extra) s ≡ closing_within retries most s
enough retries zero extra s h = ap (λ n. closing_within retries n s) (none_before extra) ∙ none_closing retries extra s (none_more retries s.carried h)
  where
    none_before : (k : ℕ) → 0 + k ≡ k
    none_before k = omega arith
enough retries (suc most) extra s h =
    ap (λ n. closing_within retries n s) (further most extra)
    ∙ ap (λ (rest : List (List Call)). while_carried s.carried rest) (enough retries most extra (after_batch retries s []) (tried_more retries most s h))
  where
    further : (a b : ℕ) → suc a + b ≡ suc (a + b)
    further a b = omega arith

one_closing : (retries : ℕ) (s : Standing) → AreFew retries s.carried → closing retries s ≡ while_carried s.carried (closing retries (after_batch retries s []))
one_closing zero s h = sym (ap (λ (carried : List Carried). while_carried carried (closing zero (after_batch zero s []))) (none_more zero s.carried (from_few zero s.carried h)))
one_closing (suc most) s h =
    ap (λ (rest : List (List Call)). while_carried s.carried rest)
    (sym (ap (λ n. closing_within (suc most) n (after_batch (suc most) s [])) (last most) ∙ enough (suc most) most 1 (after_batch (suc most) s []) (tried_more (suc most) most s (from_few (suc most) s.carried h))))
  where
    last : (n : ℕ) → suc n ≡ n + 1
    last n = omega arith

pub closing_next : (retries : ℕ) (db : Database) (batches : List (List Call)) →
    closed retries false (after_batches retries (start_of db) batches) [] ≡
    while_carried (after_batches retries (start_of db) batches).carried (closed retries false (after_batch retries (after_batches retries (start_of db) batches) []) [])
closing_next retries db batches = one_closing retries (after_batches retries (start_of db) batches) (few retries db batches)

at_most_one_more : (carried : List Carried) (rest : List (List Call)) (n : ℕ) → length rest ≤ n → length (while_carried carried rest) ≤ suc n
at_most_one_more [] rest n h = omega arith
at_most_one_more (c ∷ cs) rest n h = omega (arith, h)

pub closing_few : (retries most : ℕ) (s : Standing) → length (closing_within retries most s) ≤ most
closing_few retries zero s = omega arith
closing_few retries (suc most) s = at_most_one_more s.carried (closing_within retries most (after_batch retries s [])) most (closing_few retries most (after_batch retries s []))

-- ---- the end

pub nothing_left : (retries : ℕ) (db : Database) (batches : List (List Call)) → (after_batches retries (start_of db) (closed retries false (start_of db) batches)).carried ≡ []
nothing_left retries db batches = closed_ends retries (start_of db) batches tt

-- a batch that leaves a request to be tried again isn't the last one
pub not_the_last : (retries : ℕ) (db : Database) (batches before : List (List Call)) (calls : List Call) (after : List (List Call)) (place : ℕ) (attempt : Attempt)
    → closed retries false (start_of db) batches ≡ before ++ calls ∷ after
    → slice_get (attempts_at (after_batches retries (start_of db) before) calls) place ≡ Some attempt
    → slice_get (replies_at (after_batches retries (start_of db) before) calls) place ≡ Some stale
    → tries_of attempt.before < retries → ¬ (after ≡ [])
not_the_last retries db batches before calls after place attempt is tried ended less none =
    let s = after_batches retries (start_of db) before in
    let all : closed retries false (start_of db) batches ≡ before ++ calls ∷ [] = is ∙ ap (λ (rest : List (List Call)). before ++ calls ∷ rest) none in
    let left : (after_batch retries s calls).carried ≡ [] =
    ap (λ (end : Standing). end.carried) (sym (after_batches-append retries (start_of db) before (calls ∷ [])))
    ∙ ap (λ (all : List (List Call)). (after_batches retries (start_of db) all).carried) (sym all)
    ∙ nothing_left retries db batches in
    let one = carried_on (record { no = s.next + place; attempt = attempt }) in
    let has : Contains [] one = subst (λ (carried : List Carried). Contains carried one) left
    (each_is_left retries s.next (attempts_at s calls) (replies_at s calls) place attempt tried ended less) in
    let within : has.0 < 0 = has.1 in
    absurd (omega (arith, within))
