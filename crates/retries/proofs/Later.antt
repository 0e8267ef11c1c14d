-- How many transactions of a log are later attempts of one request.
use Rattle.std.proofs.Common.{◌≡◌, ℕ, suc, ◌+◌, ◌-◌, ◌≤◌, leb, ◌==◌, Bool, true, false, cond, List, [], ◌∷◌, Option, Some, None, filter, length, map, option_map, refl, sym, ap, ◌∙◌, arith}
use Rattle.std.specs.List.{AllByRecursion, count_by, sum_by}
use Rattle.std.proofs.lemmas.Bool.{eqb-true, le-leb, leb-true, lt-leb, true≢false, false≢true}
use Rattle.std.proofs.lemmas.List.Sums.{length-filter, sum_by-cons, sum_by-append}
use Rattle.values.specs.Database.{Database}
use Rattle.requests.specs.Requests.{Call}
use Rattle.meaning.specs.Entries.{Reply}
use Rattle.report_text.specs.Report.{Transaction, all_transactions}
use Rattle.sequencer.specs.Attempts.{Attempt, Earlier, Numbered, again, own, attempts_of, tries_of, first_of, carried_on, is_left, left_of}
use Rattle.sequencer.specs.Batches.{RequestItem, items_from}
use Rattle.sequencer.specs.declared.attempts.Carried.{Carried}
use Rattle.sequencer.proofs.Carryings.{left_next}
use Rattle.retries.specs.Standings.{Standing, start_of, attempts_at, transaction_of, transactions_at, transactions_in, replies_at, after_batch, in_turn, is_later_of}
use Rattle.retries.proofs.Few.{AreWithin, left_within, one_if, tried_few}

-- of the request whose first attempt has the number `first`
module _ (retries first : ℕ) where
  -- how many of the transactions are later attempts of it
  abbrev later : List Transaction → ℕ
  later transactions = count_by (λ t. is_later_of first t.of) transactions

  -- the attempts that it may still have, if that one is it
  abbrev one_may : Carried → ℕ
  one_may one = cond (one.first == first) (retries + 1 - one.tries) 0

  abbrev may : List Carried → ℕ
  may carried = sum_by one_may carried

  -- ... and those from an attempt on, if it had one before
  abbrev has_from : Option Earlier → ℕ
  has_from None = 0
  has_from (Some earlier) = cond (earlier.first == first) (retries + 1 - earlier.tries) 0

  abbrev one_has : Attempt → ℕ
  one_has attempt = has_from attempt.before

  abbrev has : List Attempt → ℕ
  has attempts = sum_by one_has attempts

  -- those that it may have, if its first attempt has that number or a later one
  abbrev to_come : ℕ → ℕ
  to_come n = cond (leb n first) retries 0

  -- ---- one attempt

  own_by : (here further now : Bool) → (here ≡ true → further ≡ false) → (here ≡ true → now ≡ true) → (further ≡ true → now ≡ true)
      → cond here (retries + 1 - (0 + 1)) 0 + cond further retries 0 ≤ cond now retries 0
  own_by true true now not_both is was = absurd (true≢false (not_both refl))
  own_by true false true not_both is was = omega arith
  own_by true false false not_both is was = absurd (false≢true (is refl))
  own_by false true true not_both is was = omega arith
  own_by false true false not_both is was = absurd (false≢true (was refl))
  own_by false false now not_both is was = omega arith

  own_next : (n : ℕ) → cond (n == first) (retries + 1 - (0 + 1)) 0 + to_come (n + 1) ≤ to_come n
  own_next n =
      own_by (n == first) (leb (n + 1) first) (leb n first)
      (λ is. let same : n ≡ first = eqb-true n first is in lt-leb (n + 1) first (omega (arith, same)))
      (λ is. let same : n ≡ first = eqb-true n first is in le-leb n first (omega (arith, same)))
      (λ is. let below : n + 1 ≤ first = leb-true (n + 1) first is in le-leb n first (omega (arith, below)))

  again_by : (is : Bool) (tries rest old : ℕ) → tries ≤ retries → rest ≤ old
      → one_if is + cond is (retries + 1 - (tries + 1)) 0 + rest ≤ cond is (retries + 1 - tries) 0 + old
  again_by true tries rest old few h = omega arith
  again_by false tries rest old few h = omega arith

  by_before : (n : ℕ) (before : Option Earlier) → tries_of before ≤ retries
      → one_if (is_later_of first (option_map (λ (e : Earlier). e.first) before)) + cond (first_of n before == first) (retries + 1 - (tries_of before + 1)) 0 + to_come (n + 1)
      ≤ has_from before + to_come n
  by_before n None few = let next = own_next n in omega (arith, next)
  by_before n (Some earlier) few =
      let next = own_next n in
      again_by (earlier.first == first) earlier.tries (to_come (n + 1)) (to_come n) few (omega (arith, next))

  by_head : (n : ℕ) (attempt : Attempt) (b : Bool) (db : Database) → tries_of attempt.before ≤ retries
      → one_if (is_later_of first (transaction_of db attempt).of) + may (cond b (carried_on (record { no = n; attempt = attempt }) ∷ []) []) + to_come (n + 1) ≤ one_has attempt + to_come n
  by_head n attempt true db few =
      let next = by_before n attempt.before few in
      omega (arith, next, sum_by-cons one_may (carried_on (record { no = n; attempt = attempt })) [])
  by_head n attempt false db few = let next = by_before n attempt.before few in omega (arith, next)

  -- ---- the attempts of a batch

  -- what is left of one attempt, and of those after it
  spent_next : (n : ℕ) (a : Attempt) (attempts : List Attempt) (db : Database) (left head rest : ℕ) → left ≤ head + rest
      → later (map (transaction_of db) attempts) + rest + to_come (n + 1 + length attempts) ≤ has attempts + to_come (n + 1)
      → one_if (is_later_of first (transaction_of db a).of) + head + to_come (n + 1) ≤ one_has a + to_come n
      → later (map (transaction_of db) (a ∷ attempts)) + left + to_come (n + length (a ∷ attempts)) ≤ has (a ∷ attempts) + to_come n
  spent_next n a attempts db left head rest both after_batch first_one =
      added _ _ _ _ _ _ _ _ _ _
      (sum_by-cons (λ (t : Transaction). one_if (is_later_of first t.of)) (transaction_of db a) (map (transaction_of db) attempts))
      (sum_by-cons one_has a attempts) (ap to_come (further n (length attempts))) both after_batch first_one
    where
      further : (a b : ℕ) → a + suc b ≡ a + 1 + b
      further a b = omega arith

      added : (t ts all h hs held last end_ now new : ℕ) → all ≡ t + ts → held ≡ h + hs → end_ ≡ last → left ≤ head + rest
          → ts + rest + last ≤ hs + new → t + head + new ≤ h + now → all + left + end_ ≤ held + now
      added t ts all h hs held last end_ now new e f g k a b = omega arith

  spent : (n : ℕ) (attempts : List Attempt) (replies : List Reply) (db : Database) → AllByRecursion (λ (attempt : Attempt). tries_of attempt.before ≤ retries) attempts
      → later (map (transaction_of db) attempts) + may (left_of retries n attempts replies) + to_come (n + length attempts) ≤ has attempts + to_come n
  spent n [] replies db h = let same : n + 0 ≡ n = omega arith in rw same (omega arith)
  spent n (a ∷ attempts) [] db h =
      spent_next n a attempts db 0 0 (may (left_of retries (n + 1) attempts [])) (omega arith) (spent (n + 1) attempts [] db h.1) (by_head n a false db h.0)
  spent n (a ∷ attempts) (reply ∷ replies) db h =
      let tried : Numbered = record { no = n; attempt = a } in
      let head : List Carried = cond (is_left retries (tried, reply)) (carried_on tried ∷ []) [] in
      let rest : List Carried = left_of retries (n + 1) attempts replies in
      spent_next n a attempts db (may (left_of retries n (a ∷ attempts) (reply ∷ replies))) (may head) (may rest)
      (omega (arith, ap may (left_next retries n a attempts reply replies), sum_by-append one_may head rest))
      (spent (n + 1) attempts replies db h.1) (by_head n a (is_left retries (tried, reply)) db h.0)

  own_have : (n : ℕ) (calls : List Call) → has (map own (items_from n calls)) ≡ 0
  own_have n [] = refl
  own_have n (call ∷ calls) =
      let item : RequestItem = record { client = 0; number = n; request = call } in
      omega (arith, sum_by-cons one_has (own item) (map own (items_from (n + 1) calls)), own_have (n + 1) calls)

  have : (carried : List Carried) (calls : List Call) → has (attempts_of carried (items_from 0 calls)) ≡ may carried
  have [] calls = own_have 0 calls
  have (one ∷ carried) calls =
      sum_by-cons one_has (again one) (attempts_of carried (items_from 0 calls))
      ∙ ap (λ n. one_may one + n) (have carried calls)
      ∙ sym (sum_by-cons one_may one carried)

  -- ---- batches one after another

  in_batches : (s : Standing) (batches : List (List Call)) → AreWithin retries s.carried
      → later (all_transactions (in_turn retries s batches)) ≤ may s.carried + to_come s.next
  in_batches s [] h = omega arith
  in_batches s (calls ∷ batches) h =
      let rest = all_transactions (in_turn retries (after_batch retries s calls) batches) in
      added _ _ _ _ _ _ _ _
      (sum_by-append (λ (t : Transaction). one_if (is_later_of first t.of)) (transactions_at s calls) rest)
      (spent s.next (attempts_at s calls) (replies_at s calls) s.rows (tried_few retries s.carried (items_from 0 calls) h))
      (have s.carried calls)
      (in_batches (after_batch retries s calls) batches (left_within retries s calls))
    where
      added : (all ts us held old left last now : ℕ) → all ≡ ts + us → ts + left + last ≤ held + now → held ≡ old → us ≤ left + last → all ≤ old + now
      added all ts us held old left last now e f g h = omega arith

  none_more : (b : Bool) → 0 + cond b retries 0 ≤ retries
  none_more true = omega arith
  none_more false = omega arith

pub later_few : (retries : ℕ) (db : Database) (batches : List (List Call)) (first : ℕ) → length (filter (λ (t : Transaction). is_later_of first t.of) (transactions_in retries db batches)) ≤ retries
later_few retries db batches first =
    counted _ _ _
    (length-filter (λ (t : Transaction). is_later_of first t.of) (transactions_in retries db batches))
    (in_batches retries first (start_of db) batches tt)
    (none_more retries first (leb 0 first))
  where
    counted : (l n most : ℕ) → l ≡ n → n ≤ most → most ≤ retries → l ≤ retries
    counted l n most e f g = omega arith
