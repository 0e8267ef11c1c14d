-- Batches that run on the rows that other batches left.
use Rattle.std.proofs.Common.{◌≡◌, ℕ, ◌+◌, Bool, true, false, List, [], ◌∷◌, ◌++◌, map, filter, length, suc, Option, Some, None, option_map, refl, sym, ap, ap₂, ◌∙◌, arith}
use Rattle.std.specs.List.{zip}
use Rattle.std.specs.Prelude.{cond}
use Rattle.std.proofs.lemmas.List.{map-append}
use Rattle.values.specs.Database.{Database}
use Rattle.requests.specs.Requests.{Call}
use Rattle.meaning.specs.Entries.{EntryShape, Reply}
use Rattle.meaning.specs.Serial.{serial_end, serial_replies}
use Rattle.sequencer.specs.declared.attempts.Carried.{Carried}
use Rattle.sequencer.specs.Attempts.{again, Attempt, attempts_of, carried_on, Earlier, first_of, goes_on, is_left, left_of, Numbered, numbered_from, own, tries_of}
use Rattle.sequencer.specs.Batches.{items_from, RequestItem}
use Rattle.report_text.specs.Report.{entries_in}
use Rattle.retries.specs.Moved.{raised, raised_request}
use Rattle.retries.specs.Standings.{after_batch, after_batches, attempts_at, replies_at, Standing, start_of, transaction_of, transactions_at}
use Rattle.retries.proofs.Followed.{after_batches-append}

-- ---- attempts with higher numbers

abbrev raised_earlier : ℕ → Earlier → Earlier
raised_earlier n earlier = record { first = n + earlier.first; tries = earlier.tries }

abbrev raised_attempt : ℕ → Attempt → Attempt
raised_attempt n attempt = record {
  client = attempt.client;
  number = attempt.number;
  request = attempt.request;
  before = option_map (raised_earlier n) attempt.before;
}

abbrev raised_number : ℕ → Numbered → Numbered
raised_number n one = record { no = n + one.no; attempt = raised_attempt n one.attempt }

abbrev raised_end : ℕ → Numbered × Reply → Numbered × Reply
raised_end n ended = (raised_number n ended.0, ended.1)

raised_again : (n : ℕ) (carried : List Carried) → map again (map (raised_request n) carried) ≡ map (raised_attempt n) (map again carried)
raised_again n [] = refl
raised_again n (one ∷ carried) = ap (λ rest. raised_attempt n (again one) ∷ rest) (raised_again n carried)

raised_own : (n : ℕ) (items : List RequestItem) → map own items ≡ map (raised_attempt n) (map own items)
raised_own n [] = refl
raised_own n (item ∷ items) = ap (λ rest. own item ∷ rest) (raised_own n items)

raised_attempts : (n : ℕ) (s : Standing) (calls : List Call) → attempts_at (raised n s) calls ≡ map (raised_attempt n) (attempts_at s calls)
raised_attempts n s calls =
    ap₂ (λ xs ys. xs ++ ys) (raised_again n s.carried) (raised_own n (items_from 0 calls)) ∙ sym (map-append (raised_attempt n) (map again s.carried) (map own (items_from 0 calls)))

-- ---- their entries and replies

same_entries : (n : ℕ) (db : Database) (attempts : List Attempt) → entries_in (map (transaction_of db) (map (raised_attempt n) attempts)) ≡ entries_in (map (transaction_of db) attempts)
same_entries n db [] = refl
same_entries n db (attempt ∷ attempts) = ap (λ rest. (transaction_of db attempt).entry ∷ rest) (same_entries n db attempts)

entries_raised : (n : ℕ) (s : Standing) (calls : List Call) → entries_in (transactions_at (raised n s) calls) ≡ entries_in (transactions_at s calls)
entries_raised n s calls = ap (λ attempts. entries_in (map (transaction_of s.rows) attempts)) (raised_attempts n s calls) ∙ same_entries n s.rows (attempts_at s calls)

pub replies_raised : (n : ℕ) (s : Standing) (calls : List Call) → replies_at (raised n s) calls ≡ replies_at s calls
replies_raised n s calls = ap (λ entries. serial_replies entries s.rows) (entries_raised n s calls)

-- ---- what is left of them

numbers_raised : (n k : ℕ) (attempts : List Attempt) (replies : List Reply) →
    zip (numbered_from (n + k) (map (raised_attempt n) attempts)) replies ≡ map (raised_end n) (zip (numbered_from k attempts) replies)
numbers_raised n k [] replies = refl
numbers_raised n k (attempt ∷ attempts) [] = refl
numbers_raised n k (attempt ∷ attempts) (reply ∷ replies) =
    let next : n + k + 1 ≡ n + (k + 1) = omega arith in
    ap (λ rest. raised_end n (record { no = k; attempt = attempt }, reply) ∷ rest)
    (ap (λ m. zip (numbered_from m (map (raised_attempt n) attempts)) replies) next ∙ numbers_raised n (k + 1) attempts replies)

tries_raised : (n : ℕ) (before : Option Earlier) → tries_of (option_map (raised_earlier n) before) ≡ tries_of before
tries_raised n None = refl
tries_raised n (Some earlier) = refl

first_raised : (n k : ℕ) (before : Option Earlier) → first_of (n + k) (option_map (raised_earlier n) before) ≡ n + first_of k before
first_raised n k None = refl
first_raised n k (Some earlier) = refl

left_alike : (retries n : ℕ) (ended : Numbered × Reply) → is_left retries (raised_end n ended) ≡ is_left retries ended
left_alike retries n ended = ap (λ tries. goes_on retries tries ended.1) (tries_raised n ended.0.attempt.before)

carried_raised : (n : ℕ) (tried : Numbered) → carried_on (raised_number n tried) ≡ raised_request n (carried_on tried)
carried_raised n tried i = record {
  client = tried.attempt.client;
  number = tried.attempt.number;
  request = tried.attempt.request;
  first = first_raised n tried.no tried.attempt.before i;
  tries = tries_raised n tried.attempt.before i + 1;
}

abbrev carried_in : List (Numbered × Reply) → List Carried
carried_in zs = map (λ ended. carried_on ended.0) zs

filtered : (p : Numbered × Reply → Bool) (n : ℕ) → ((z : Numbered × Reply) → p (raised_end n z) ≡ p z) → (zs : List (Numbered × Reply)) →
    map (λ ended. carried_on ended.0) (filter p (map (raised_end n) zs)) ≡ map (raised_request n) (map (λ ended. carried_on ended.0) (filter p zs))
filtered p n alike [] = refl
filtered p n alike (z ∷ zs) = rw (alike z) (elim (p z) as (λ b. carried_in (cond b (raised_end n z ∷ filter p (map (raised_end n) zs)) (filter p (map (raised_end n) zs)))
    ≡ map (raised_request n) (carried_in (cond b (z ∷ filter p zs) (filter p zs)))) [
      | true ↦ ap₂ (λ one rest. one ∷ rest) (carried_raised n z.0) (filtered p n alike zs)
      | false ↦ filtered p n alike zs
    ])

left_raised : (retries n k : ℕ) (attempts : List Attempt) (replies : List Reply) →
    left_of retries (n + k) (map (raised_attempt n) attempts) replies ≡ map (raised_request n) (left_of retries k attempts replies)
left_raised retries n k attempts replies =
    ap (λ zs. map (λ ended. carried_on ended.0) (filter (is_left retries) zs)) (numbers_raised n k attempts replies)
    ∙ filtered (is_left retries) n (left_alike retries n) (zip (numbered_from k attempts) replies)

-- ---- batches

count_raised : (n : ℕ) (attempts : List Attempt) → length (map (raised_attempt n) attempts) ≡ length attempts
count_raised n [] = refl
count_raised n (attempt ∷ attempts) = ap suc (count_raised n attempts)

batch_raised : (retries n : ℕ) (s : Standing) (calls : List Call) → after_batch retries (raised n s) calls ≡ raised n (after_batch retries s calls)
batch_raised retries n s calls =
    let attempts = raised_attempts n s calls in
    let count : n + s.next + length (attempts_at (raised n s) calls) ≡ n + (s.next + length (attempts_at s calls)) =
    ap (λ k. n + s.next + k) (ap length attempts ∙ count_raised n (attempts_at s calls)) ∙ omega arith in
    let left : left_of retries (n + s.next) (attempts_at (raised n s) calls) (replies_at (raised n s) calls)
    ≡ map (raised_request n) (left_of retries s.next (attempts_at s calls) (replies_at s calls)) =
    ap₂ (left_of retries (n + s.next)) attempts (replies_raised n s calls) ∙ left_raised retries n s.next (attempts_at s calls) (replies_at s calls) in
    λ i. record { next = count i; rows = serial_end (entries_raised n s calls i) s.rows; carried = left i }

batches_raised : (retries n : ℕ) (s : Standing) (batches : List (List Call)) → after_batches retries (raised n s) batches ≡ raised n (after_batches retries s batches)
batches_raised retries n s [] = refl
batches_raised retries n s (calls ∷ batches) =
    ap (λ t. after_batches retries t batches) (batch_raised retries n s calls) ∙ batches_raised retries n (after_batch retries s calls) batches

-- where nothing is carried a log goes on as from the rows
none_carried : (s : Standing) → s.carried ≡ [] → s ≡ raised s.next (start_of s.rows)
none_carried s none i = record { next = no_more s.next i; rows = s.rows; carried = none i }
  where
    no_more : (n : ℕ) → n ≡ n + 0
    no_more n = omega arith

pub goes_on_from_rows : (retries : ℕ) (db : Database) (batches more : List (List Call)) → (after_batches retries (start_of db) batches).carried ≡ [] →
    after_batches retries (start_of db) (batches ++ more)
    ≡ raised (after_batches retries (start_of db) batches).next (after_batches retries (start_of (after_batches retries (start_of db) batches).rows) more)
goes_on_from_rows retries db batches more none =
    let s = after_batches retries (start_of db) batches in
    after_batches-append retries (start_of db) batches more ∙ ap (λ t. after_batches retries t more) (none_carried s none) ∙ batches_raised retries s.next (start_of s.rows) more

pub replies_from_rows : (retries : ℕ) (db : Database) (batches more : List (List Call)) (calls : List Call) → (after_batches retries (start_of db) batches).carried ≡ [] →
    replies_at (after_batches retries (start_of db) (batches ++ more)) calls ≡ replies_at (after_batches retries (start_of (after_batches retries (start_of db) batches).rows) more) calls
replies_from_rows retries db batches more calls none =
    let s = after_batches retries (start_of db) batches in
    ap (λ t. replies_at t calls) (goes_on_from_rows retries db batches more none) ∙ replies_raised s.next (after_batches retries (start_of s.rows) more) calls
