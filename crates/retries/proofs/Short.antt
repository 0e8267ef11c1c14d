-- How many attempts a batch has, where no batch has more than so many calls.
use Rattle.std.proofs.Common.{◌≡◌, ℕ, zero, suc, ◌+◌, ◌*◌, ◌≤◌, leb, Bool, true, false, cond, List, [], ◌∷◌, length, map, ap, ◌∙◌, add-one, arith}
use Rattle.std.specs.List.{AllByRecursion, count_by}
use Rattle.std.proofs.Math.Dec.{leb-suc-suc}
use Rattle.std.proofs.lemmas.Bool.{le-leb, lt-leb}
use Rattle.std.proofs.lemmas.List.{length-map}
use Rattle.std.proofs.lemmas.List.Sums.{sum_by-cons, sum_by-append, count_by-le-length}
use Rattle.values.specs.Database.{Database}
use Rattle.requests.specs.Requests.{Call}
use Rattle.meaning.specs.Entries.{Reply}
use Rattle.sequencer.specs.Attempts.{Attempt, Numbered, again, own, attempts_of, tries_of, carried_on, is_left, left_of}
use Rattle.sequencer.specs.Batches.{RequestItem, items_from}
use Rattle.sequencer.specs.declared.attempts.Carried.{Carried}
use Rattle.sequencer.proofs.Carryings.{left_next}
use Rattle.retries.specs.Standings.{Standing, start_of, attempts_at, replies_at, after_batch, after_batches}
use Rattle.retries.proofs.Few.{AreFew, AreWithin, few, few_within, left_few, one_if}
use Rattle.retries.proofs.Spent.{attempts_count, own_count}

-- one, if a carried request was tried so often or fewer times
abbrev one_within : ℕ → Carried → ℕ
one_within k one = one_if (leb one.tries k)

-- how many of the carried requests were
abbrev within : ℕ → List Carried → ℕ
within k carried = count_by (λ one. leb one.tries k) carried

-- one, if so many attempts or fewer were before an attempt
abbrev one_after : ℕ → Attempt → ℕ
one_after k attempt = one_if (leb (tries_of attempt.before) k)

-- how many of the attempts are so
abbrev after : ℕ → List Attempt → ℕ
after k attempts = count_by (λ attempt. leb (tries_of attempt.before) k) attempts

-- ---- what is left of attempts was tried once more than they

head_within : (k : ℕ) (tried : Numbered) (b : Bool) → within (suc k) (cond b (carried_on tried ∷ []) []) ≤ one_after k tried.attempt
head_within k tried true =
    let t = tries_of tried.attempt.before in
    let same : one_if (leb (t + 1) (suc k)) ≡ one_if (leb t k) = ap (λ n. one_if (leb n (suc k))) (add-one t) ∙ ap one_if (leb-suc-suc t k) in
    omega (arith, same, sum_by-cons (one_within (suc k)) (carried_on tried) [])
head_within k tried false = omega arith

left_count : (k retries n : ℕ) (attempts : List Attempt) (replies : List Reply) → within (suc k) (left_of retries n attempts replies) ≤ after k attempts
left_count k retries n [] replies = omega arith
left_count k retries n (a ∷ attempts) [] = omega arith
left_count k retries n (a ∷ attempts) (reply ∷ replies) =
    let tried : Numbered = record { no = n; attempt = a } in
    let head : List Carried = cond (is_left retries (tried, reply)) (carried_on tried ∷ []) [] in
    let rest : List Carried = left_of retries (n + 1) attempts replies in
    one_more _ _ _ _ _ _
    (sum_by-cons (one_after k) a attempts)
    (ap (within (suc k)) (left_next retries n a attempts reply replies) ∙ sum_by-append (one_within (suc k)) head rest)
    (left_count k retries (n + 1) attempts replies)
    (head_within k tried (is_left retries (tried, reply)))
  where
    one_more : (one others all head rest left : ℕ) → all ≡ one + others → left ≡ head + rest → rest ≤ others → head ≤ one → left ≤ all
    one_more one others all head rest left e f g h = omega arith

-- ---- the attempts of a batch

attempts_after : (k : ℕ) (carried : List Carried) (items : List RequestItem) → after k (attempts_of carried items) ≤ within k carried + length items
attempts_after k [] items = omega (arith, count_by-le-length (λ (attempt : Attempt). leb (tries_of attempt.before) k) (map own items), length-map items own)
attempts_after k (one ∷ carried) items =
    one_more _ _ _ _ _ _ (sum_by-cons (one_after k) (again one) (attempts_of carried items)) (sum_by-cons (one_within k) one carried) (attempts_after k carried items)
  where
    one_more : (first rest all own may_all may : ℕ) → all ≡ first + rest → may_all ≡ first + may → rest ≤ may + own → all ≤ may_all + own
    one_more first rest all own may_all may e f g = omega arith

none_within : (retries : ℕ) (carried : List Carried) → AreFew retries carried → within 0 carried ≤ 0
none_within retries [] h = omega arith
none_within retries (one ∷ carried) h =
    let none : one_if (leb one.tries 0) ≡ 0 = ap one_if (lt-leb one.tries 0 (omega (arith, h.0.0))) in
    omega (arith, none, sum_by-cons (one_within 0) one carried, none_within retries carried h.1)

-- ---- batches one after another

-- of the carried requests, so many for each attempt were tried at most so often
abbrev IsShort : ℕ → List Carried → Type 0
IsShort most carried = (k : ℕ) → within k carried ≤ k * most

short_next : (retries most : ℕ) (s : Standing) (calls : List Call) → length calls ≤ most → IsShort most s.carried → IsShort most (after_batch retries s calls).carried
short_next retries most s calls small h zero = let none = none_within retries (after_batch retries s calls).carried (left_few retries s calls) in omega (arith, none)
short_next retries most s calls small h (suc k) =
    counted _ _ _ _ _ _
    (left_count k retries s.next (attempts_at s calls) (replies_at s calls))
    (attempts_after k s.carried (items_from 0 calls))
    (own_count 0 calls) small (h k)
  where
    counted : (left all carried own n most : ℕ) → left ≤ all → all ≤ carried + own → own ≡ n → n ≤ most → carried ≤ k * most → left ≤ suc k * most
    counted left all carried own n most e f g a b = omega arith

short_from : (retries most : ℕ) (s : Standing) (batches : List (List Call)) → AllByRecursion (λ (b : List Call). length b ≤ most) batches → IsShort most s.carried
    → IsShort most (after_batches retries s batches).carried
short_from retries most s [] small h = h
short_from retries most s (calls ∷ batches) small h = short_from retries most (after_batch retries s calls) batches small.1 (short_next retries most s calls small.0 h)

all_within : (retries : ℕ) (carried : List Carried) → AreWithin retries carried → length carried ≤ within retries carried
all_within retries [] h = omega arith
all_within retries (one ∷ carried) h =
    let is : one_if (leb one.tries retries) ≡ 1 = ap one_if (le-leb one.tries retries h.0) in
    omega (arith, is, sum_by-cons (one_within retries) one carried, all_within retries carried h.1)

pub attempts_short : (retries most : ℕ) (db : Database) (batches : List (List Call)) (calls : List Call) → AllByRecursion (λ (b : List Call). length b ≤ most) batches
    → length calls ≤ most → length (attempts_at (after_batches retries (start_of db) batches) calls) ≤ (retries + 1) * most
attempts_short retries most db batches calls small own_small =
    let s = after_batches retries (start_of db) batches in
    counted _ _ _ _ (attempts_count s calls) (all_within retries s.carried (few_within retries s.carried (few retries db batches)))
    (short_from retries most (start_of db) batches small (λ k. omega arith) retries) own_small
  where
    counted : (all carried own within : ℕ) → all ≡ carried + own → carried ≤ within → within ≤ retries * most → own ≤ most → all ≤ (retries + 1) * most
    counted all carried own within e f g h = omega arith
