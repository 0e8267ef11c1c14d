-- How many attempts are after a request.
use Rattle.std.proofs.Common.{◌≡◌, ℕ, ◌+◌, ◌≤◌, ◌<◌, Bool, cond, List, [], ◌∷◌, length, get_or, map, zero, suc, None, refl, sym, ap, ◌∙◌, subst, arith}
use Rattle.std.specs.List.{AllByRecursion, Contains}
use Rattle.std.proofs.lemmas.List.{length-map}
use Rattle.std.proofs.lemmas.List.Elements.{Contains-append_left}
use Rattle.values.specs.Database.{Database}
use Rattle.requests.specs.Requests.{Call}
use Rattle.report_text.specs.Report.{Transaction, entries_in}
use Rattle.sequencer.specs.Attempts.{Attempt, again, own, attempts_of, tries_of}
use Rattle.sequencer.specs.Batches.{RequestItem, items_from}
use Rattle.sequencer.specs.declared.attempts.Carried.{Carried}
use Rattle.sequencer.specs.Again.{IsTriedAgain}
use Rattle.sequencer.specs.Entries.{prepared}
use Rattle.sequencer.proofs.TriedAgain.{at_most_tried, left_is_tried_again, none_tried}
use Rattle.retries.specs.Standings.{Standing, start_of, attempts_at, transaction_of, transactions_at, replies_at, after_batch, after_batches}

pub all_of : {A : Type 0} (holds other : A → Type 0) → ((one : A) → holds one → other one) → (xs : List A) → AllByRecursion holds xs → AllByRecursion other xs
all_of holds other goes [] h = tt
all_of holds other goes (x ∷ xs) h = (goes x h.0, all_of holds other goes xs h.1)

-- for counting those of a kind
abbrev pub one_if : Bool → ℕ
one_if b = cond b 1 0

-- at least one attempt is after each carried request, and no more than it may be tried again
abbrev pub AreFew : ℕ → List Carried → Type 0
AreFew retries carried = AllByRecursion (λ one. (1 ≤ one.tries) × (one.tries ≤ retries)) carried

pub left_few : (retries : ℕ) (s : Standing) (calls : List Call) → AreFew retries (after_batch retries s calls).carried
left_few retries s calls =
    all_of (IsTriedAgain retries s.next (attempts_at s calls) (replies_at s calls)) (λ (one : Carried). (1 ≤ one.tries) × (one.tries ≤ retries))
    (λ one h. let few = h.few in let tries = h.tries in (omega arith, omega arith))
    (after_batch retries s calls).carried (left_is_tried_again retries s.next (attempts_at s calls) (replies_at s calls))

-- no carried request was tried more often than it may be tried again
abbrev pub AreWithin : ℕ → List Carried → Type 0
AreWithin retries carried = AllByRecursion (λ one. one.tries ≤ retries) carried

pub few_within : (retries : ℕ) (carried : List Carried) → AreFew retries carried → AreWithin retries carried
few_within retries carried h = all_of (λ (one : Carried). (1 ≤ one.tries) × (one.tries ≤ retries)) (λ (one : Carried). one.tries ≤ retries) (λ one both. both.1) carried h

pub left_within : (retries : ℕ) (s : Standing) (calls : List Call) → AreWithin retries (after_batch retries s calls).carried
left_within retries s calls = at_most_tried retries s.next (attempts_at s calls) (replies_at s calls)

few_from : (retries : ℕ) (s : Standing) (batches : List (List Call)) → AreFew retries s.carried → AreFew retries (after_batches retries s batches).carried
few_from retries s [] h = h
few_from retries s (calls ∷ batches) h = few_from retries (after_batch retries s calls) batches (left_few retries s calls)

pub few : (retries : ℕ) (db : Database) (batches : List (List Call)) → AreFew retries (after_batches retries (start_of db) batches).carried
few retries db batches = few_from retries (start_of db) batches tt

-- ---- attempts

own_few : (retries : ℕ) (items : List RequestItem) → AllByRecursion (λ (attempt : Attempt). tries_of attempt.before ≤ retries) (map own items)
own_few retries [] = tt
own_few retries (item ∷ items) = (omega arith, own_few retries items)

pub tried_few : (retries : ℕ) (carried : List Carried) (items : List RequestItem) → AreWithin retries carried → AllByRecursion (λ (attempt : Attempt). tries_of attempt.before ≤ retries) (attempts_of carried items)
tried_few retries [] items h = own_few retries items
tried_few retries (one ∷ carried) items h = (h.0, tried_few retries carried items h.1)

pub attempts_few : (retries : ℕ) (db : Database) (batches : List (List Call)) (calls : List Call) →
    AllByRecursion (λ (attempt : Attempt). tries_of attempt.before ≤ retries) (attempts_at (after_batches retries (start_of db) batches) calls)
attempts_few retries db batches calls =
    let carried = (after_batches retries (start_of db) batches).carried in
    tried_few retries carried (items_from 0 calls) (few_within retries carried (few retries db batches))

-- ---- where no request is tried again

none_from : (s : Standing) (batches : List (List Call)) → s.carried ≡ [] → (after_batches 0 s batches).carried ≡ []
none_from s [] h = h
none_from s (calls ∷ batches) h = none_from (after_batch 0 s calls) batches (none_tried s.next (attempts_at s calls) (replies_at s calls))

pub none_carried : (db : Database) (batches : List (List Call)) → (after_batches 0 (start_of db) batches).carried ≡ []
none_carried db batches = none_from (start_of db) batches refl

own_first : (db : Database) (items : List RequestItem) → AllByRecursion (λ (t : Transaction). t.of ≡ None) (map (transaction_of db) (map own items))
own_first db [] = tt
own_first db (item ∷ items) = (refl, own_first db items)

pub each_first : (db : Database) (batches : List (List Call)) (calls : List Call) → AllByRecursion (λ (t : Transaction). t.of ≡ None) (transactions_at (after_batches 0 (start_of db) batches) calls)
each_first db batches calls =
    let s = after_batches 0 (start_of db) batches in
    subst (λ (carried : List Carried). AllByRecursion (λ (t : Transaction). t.of ≡ None) (map (transaction_of s.rows) (attempts_of carried (items_from 0 calls)))) (sym (none_carried db batches)) (own_first s.rows (items_from 0 calls))

own_entries : (db : Database) (n : ℕ) (calls : List Call) → entries_in (map (transaction_of db) (map own (items_from n calls))) ≡ map (prepared db) calls
own_entries db n [] = refl
own_entries db n (call ∷ calls) = ap (λ rest. prepared db call ∷ rest) (own_entries db (n + 1) calls)

pub own_alone : (db : Database) (batches : List (List Call)) (calls : List Call) →
    entries_in (transactions_at (after_batches 0 (start_of db) batches) calls) ≡ map (prepared (after_batches 0 (start_of db) batches).rows) calls
own_alone db batches calls =
    let s = after_batches 0 (start_of db) batches in
    ap (λ (carried : List Carried). entries_in (map (transaction_of s.rows) (attempts_of carried (items_from 0 calls)))) (none_carried db batches)
    ∙ own_entries s.rows 0 calls

-- ---- what is carried is tried again

tried_at : (xs : List Carried) (place : ℕ) (one : Carried) → get_or xs place one ≡ one → get_or (map again xs) place (again one) ≡ again one
tried_at [] place one h = refl
tried_at (x ∷ xs) zero one h = ap again h
tried_at (x ∷ xs) (suc place) one h = tried_at xs place one h

pub is_tried : (s : Standing) (calls : List Call) (one : Carried) → Contains s.carried one → Contains (attempts_at s calls) (again one)
is_tried s calls one h =
    let within : h.0 < length s.carried = h.1 in
    Contains-append_left (map again s.carried) (map own (items_from 0 calls)) (again one)
    (h.0, omega (arith, length-map s.carried again), tried_at s.carried h.0 one h.2)
