-- How many attempts there are: each call may have one, and one more for each time that a request is tried again.
use Rattle.std.proofs.Common.{◌≡◌, ℕ, suc, ◌+◌, ◌-◌, ◌*◌, ◌^◌, ◌≤◌, Bool, true, false, cond, List, [], ◌∷◌, length, map, refl, ap, ◌∙◌, arith}
use Rattle.std.specs.List.{AllByRecursion, sum_by}
use Rattle.std.proofs.lemmas.List.{length-append, length-map}
use Rattle.std.proofs.lemmas.List.Sums.{sum_by-cons, sum_by-append}
use Rattle.std.proofs.Math.Nat.{mul-le-mul_left}
use Rattle.values.specs.Database.{Database}
use Rattle.requests.specs.Requests.{Call}
use Rattle.meaning.specs.Entries.{Reply}
use Rattle.sequencer.specs.Attempts.{Attempt, Numbered, again, own, attempts_of, tries_of, carried_on, is_left, left_of}
use Rattle.sequencer.specs.Batches.{RequestItem, items_from}
use Rattle.sequencer.specs.declared.attempts.Carried.{Carried}
use Rattle.sequencer.proofs.Carryings.{left_next}
use Rattle.retries.specs.Standings.{Standing, start_of, attempts_at, replies_at, after_batch, after_batches, may_have, call_count}
use Rattle.retries.proofs.Few.{AreWithin, few, few_within, left_within, tried_few}

-- the attempts that a carried request may still have
abbrev one_may_have : ℕ → Carried → ℕ
one_may_have retries one = retries + 1 - one.tries

-- ... and those that an attempt's request may have from that attempt on
abbrev has_from : ℕ → Attempt → ℕ
has_from retries attempt = retries + 1 - tries_of attempt.before

abbrev all_have_from : ℕ → List Attempt → ℕ
all_have_from retries attempts = sum_by (has_from retries) attempts

-- ---- what is left of attempts may have less

head_less : (retries : ℕ) (tried : Numbered) (b : Bool) → tries_of tried.attempt.before ≤ retries
    → 1 + may_have retries (cond b (carried_on tried ∷ []) []) ≤ has_from retries tried.attempt
head_less retries tried true h = omega (arith, sum_by-cons (one_may_have retries) (carried_on tried) [])
head_less retries tried false h = omega arith

spent : (retries n : ℕ) (attempts : List Attempt) (replies : List Reply) → AllByRecursion (λ (attempt : Attempt). tries_of attempt.before ≤ retries) attempts
    → length attempts + may_have retries (left_of retries n attempts replies) ≤ all_have_from retries attempts
spent retries n [] replies h = omega arith
spent retries n (a ∷ attempts) [] h =
    one_more _ _ _ _ _ (sum_by-cons (has_from retries) a attempts) (spent retries (n + 1) attempts [] h.1) (first (tries_of a.before) h.0)
  where
    first : (t : ℕ) → t ≤ retries → 1 ≤ retries + 1 - t
    first t h = omega arith

    one_more : (l left from rest all : ℕ) → all ≡ from + rest → l + left ≤ rest → 1 ≤ from → suc l + 0 ≤ all
    one_more l left from rest all e f g = omega arith
spent retries n (a ∷ attempts) (reply ∷ replies) h =
    let tried : Numbered = record { no = n; attempt = a } in
    let head : List Carried = cond (is_left retries (tried, reply)) (carried_on tried ∷ []) [] in
    let rest : List Carried = left_of retries (n + 1) attempts replies in
    one_more _ _ _ _ _ _ _
    (sum_by-cons (has_from retries) a attempts)
    (ap (may_have retries) (left_next retries n a attempts reply replies) ∙ sum_by-append (one_may_have retries) head rest)
    (spent retries (n + 1) attempts replies h.1)
    (head_less retries tried (is_left retries (tried, reply)) h.0)
  where
    one_more : (l from others all head rest left : ℕ) → all ≡ from + others → left ≡ head + rest → l + rest ≤ others → 1 + head ≤ from → suc l + left ≤ all
    one_more l from others all head rest left e f g k = omega arith

-- ---- what the attempts of a batch may have

own_have : (retries n : ℕ) (calls : List Call) → all_have_from retries (map own (items_from n calls)) ≡ (retries + 1) * length calls
own_have retries n [] = omega arith
own_have retries n (call ∷ calls) =
    let item : RequestItem = record { client = 0; number = n; request = call } in
    one_more _ _ _ _ (sum_by-cons (has_from retries) (own item) (map own (items_from (n + 1) calls))) (own_have retries (n + 1) calls)
  where
    one_more : (r l rest all : ℕ) → all ≡ (r + 1 - 0) + rest → rest ≡ (r + 1) * l → all ≡ (r + 1) * suc l
    one_more r l rest all e f = omega arith

have : (retries : ℕ) (carried : List Carried) (calls : List Call) → all_have_from retries (attempts_of carried (items_from 0 calls)) ≡ may_have retries carried + (retries + 1) * length calls
have retries [] calls = own_have retries 0 calls ∙ omega arith
have retries (one ∷ carried) calls =
    one_more _ _ _ _ _ _ (sum_by-cons (has_from retries) (again one) (attempts_of carried (items_from 0 calls))) (sum_by-cons (one_may_have retries) one carried) (have retries carried calls)
  where
    one_more : (first rest all may may_all new : ℕ) → all ≡ first + rest → may_all ≡ first + may → rest ≡ may + new → all ≡ may_all + new
    one_more first rest all may may_all new e f g = omega arith

-- ---- batches one after another

-- the numbers that are given, and the attempts that what is carried may still have
abbrev numbers : ℕ → Standing → ℕ
numbers retries s = s.next + may_have retries s.carried

pub in_batch : (retries : ℕ) (s : Standing) (calls : List Call) → AreWithin retries s.carried → numbers retries (after_batch retries s calls) ≤ numbers retries s + (retries + 1) * length calls
in_batch retries s calls h =
    added _ _ _ _ _ _ (have retries s.carried calls) (spent retries s.next (attempts_at s calls) (replies_at s calls) (tried_few retries s.carried (items_from 0 calls) h))
  where
    added : (n l left all may new : ℕ) → all ≡ may + new → l + left ≤ all → (n + l) + left ≤ (n + may) + new
    added n l left all may new e f = omega arith

in_batches : (retries : ℕ) (s : Standing) (batches : List (List Call)) → AreWithin retries s.carried → numbers retries (after_batches retries s batches) ≤ numbers retries s + (retries + 1) * call_count batches
in_batches retries s [] h = omega arith
in_batches retries s (calls ∷ batches) h =
    added _ _ _ _ _ _ _ (sum_by-cons (λ (c : List Call). length c) calls batches) (in_batch retries s calls h) (in_batches retries (after_batch retries s calls) batches (left_within retries s calls))
  where
    added : (r old mid new first rest all : ℕ) → all ≡ first + rest → mid ≤ old + (r + 1) * first → new ≤ mid + (r + 1) * rest → new ≤ old + (r + 1) * all
    added r old mid new first rest all e f g = rw e (omega arith)

-- each carried request may have one more attempt
pub each_may : (retries : ℕ) (carried : List Carried) → AreWithin retries carried → length carried ≤ may_have retries carried
each_may retries [] h = omega arith
each_may retries (one ∷ carried) h =
    one_more _ _ _ _ _ (sum_by-cons (one_may_have retries) one carried) (each_may retries carried h.1) h.0
  where
    one_more : (r tries l rest all : ℕ) → all ≡ (r + 1 - tries) + rest → l ≤ rest → tries ≤ r → suc l ≤ all
    one_more r tries l rest all e f g = omega arith

pub at_most : (retries : ℕ) (db : Database) (batches : List (List Call)) →
    (after_batches retries (start_of db) batches).next + length (after_batches retries (start_of db) batches).carried ≤ (retries + 1) * call_count batches
at_most retries db batches =
    let s = after_batches retries (start_of db) batches in
    counted _ _ _ _ (in_batches retries (start_of db) batches tt) (each_may retries s.carried (few_within retries s.carried (few retries db batches)))
  where
    counted : (next may l all : ℕ) → next + may ≤ (0 + 0) + all → l ≤ may → next + l ≤ all
    counted next may l all e f = omega arith

-- ---- one more batch

pub own_count : (n : ℕ) (calls : List Call) → length (items_from n calls) ≡ length calls
own_count n [] = refl
own_count n (call ∷ calls) = ap suc (own_count (n + 1) calls)

pub attempts_count : (s : Standing) (calls : List Call) → length (attempts_at s calls) ≡ length s.carried + length calls
attempts_count s calls =
    length-append (map again s.carried) (map own (items_from 0 calls))
    ∙ ap (λ n. n + length (map own (items_from 0 calls))) (length-map s.carried again)
    ∙ ap (λ n. length s.carried + n) (length-map (items_from 0 calls) own ∙ own_count 0 calls)

pub at_most_next : (retries : ℕ) (db : Database) (batches : List (List Call)) (calls : List Call) →
    (after_batches retries (start_of db) batches).next + length (attempts_at (after_batches retries (start_of db) batches) calls) ≤ (retries + 1) * (call_count batches + length calls)
at_most_next retries db batches calls = added _ _ _ _ _ _ (attempts_count (after_batches retries (start_of db) batches) calls) (at_most retries db batches)
  where
    added : (r next carried all attempts new : ℕ) → attempts ≡ carried + new → next + carried ≤ (r + 1) * all → next + attempts ≤ (r + 1) * (all + new)
    added r next carried all attempts new e f = omega arith

pub fits : (retries : ℕ) (db : Database) (batches : List (List Call)) (calls : List Call) → retries ≤ 3 → call_count batches + length calls ≤ 2 ^ 46 →
    (after_batches retries (start_of db) batches).next + length (attempts_at (after_batches retries (start_of db) batches) calls) ≤ 2 ^ 48
fits retries db batches calls few small = within _ _ _ few small (at_most_next retries db batches calls)
  where
    within : (r calls n : ℕ) → r ≤ 3 → calls ≤ 2 ^ 46 → n ≤ (r + 1) * calls → n ≤ 2 ^ 48
    within r calls n few small h = omega (arith, mul-le-mul_left (r + 1) small)
