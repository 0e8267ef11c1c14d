-- Batches of such calls leave rows of the tables.
use Rattle.std.proofs.Common.{ℕ, zero, suc, ◌+◌, Bool, true, false, cond, List, [], ◌∷◌, ◌++◌, map, filter, zip}
use Rattle.std.specs.List.{AllByRecursion}
use Rattle.values.specs.Database.{Database}
use Rattle.catalogue.specs.Shapes.{TableShape}
use Rattle.requests.specs.Requests.{Call}
use Rattle.meaning.specs.Entries.{EntryShape, Reply}
use Rattle.meaning.specs.Serial.{serial_end}
use Rattle.row_text.specs.Calls.{AreCallsOver}
use Rattle.report_text.specs.Report.{entries_in}
use Rattle.sequencer.specs.declared.attempts.Carried.{Carried}
use Rattle.sequencer.specs.Attempts.{Attempt, Numbered, again, carried_on, is_left, left_of, numbered_from, own}
use Rattle.sequencer.specs.Batches.{items_from}
use Rattle.retries.specs.Standings.{Standing, after_batch, after_batches, attempts_at, closed, closing_within, replies_at, start_of, transaction_of, transactions_at, while_carried}
use Rattle.rows_document.specs.Said.{AreRowsIn}
use Rattle.moved_rows.specs.Stored.{IsValueCall}
use Rattle.moved_rows.proofs.Calls.{IsSaidCall, call_over, call_value}

-- what rows calls leave
abbrev pub Leaves : Type 0
Leaves = (tables : List TableShape) (calls : List EntryShape) (db : Database) → AreCallsOver tables calls → AllByRecursion IsValueCall calls → AreRowsIn tables db → AreRowsIn tables (serial_end calls db)

-- ---- lists

zip_all : {A B : Type 0} (P : A → Type 0) (xs : List A) (ys : List B) → AllByRecursion P xs → AllByRecursion (λ p. P p.0) (zip xs ys)
zip_all P [] ys h = tt
zip_all P (x ∷ xs) [] h = tt
zip_all P (x ∷ xs) (y ∷ ys) h = (h.0, zip_all P xs ys h.1)

filter_all : {A : Type 0} (P : A → Type 0) (test : A → Bool) (xs : List A) → AllByRecursion P xs → AllByRecursion P (filter test xs)
filter_all P test [] h = tt
filter_all P test (x ∷ xs) h = by (test x) (filter_all P test xs h.1)
  where
    by : (b : Bool) → AllByRecursion P (filter test xs) → AllByRecursion P (cond b (x ∷ filter test xs) (filter test xs))
    by true rest = (h.0, rest)
    by false rest = rest

map_all : {A B : Type 0} (P : A → Type 0) (Q : B → Type 0) (f : A → B) (xs : List A) → ((x : A) → P x → Q (f x)) → AllByRecursion P xs → AllByRecursion Q (map f xs)
map_all P Q f [] goes h = tt
map_all P Q f (x ∷ xs) goes h = (goes x h.0, map_all P Q f xs goes h.1)

append_all : {A : Type 0} (P : A → Type 0) (xs ys : List A) → AllByRecursion P xs → AllByRecursion P ys → AllByRecursion P (xs ++ ys)
append_all P [] ys h k = k
append_all P (x ∷ xs) ys h k = (h.0, append_all P xs ys h.1 k)

-- ---- a batch

module _ (leaves : Leaves) (tables : List TableShape) where
  abbrev Is : Call → Type 0
  Is call = IsSaidCall tables call

  abbrev Tries : Attempt → Type 0
  Tries attempt = IsSaidCall tables attempt.request

  abbrev Carries : List Carried → Type 0
  Carries carried = AllByRecursion (λ one. IsSaidCall tables one.request) carried

  -- rows of the tables, and requests that are carried
  record IsSaidStanding (s : Standing) : Type 0 where
    rows : AreRowsIn tables s.rows
    carried : Carries s.carried

  items_are : (number : ℕ) (calls : List Call) → AllByRecursion Is calls → AllByRecursion Tries (map own (items_from number calls))
  items_are number [] h = tt
  items_are number (call ∷ calls) h = (h.0, items_are (number + 1) calls h.1)

  carried_are : (carried : List Carried) → Carries carried → AllByRecursion Tries (map again carried)
  carried_are [] h = tt
  carried_are (one ∷ carried) h = (h.0, carried_are carried h.1)

  attempts_are : (s : Standing) (calls : List Call) → Carries s.carried → AllByRecursion Is calls → AllByRecursion Tries (attempts_at s calls)
  attempts_are s calls h k = append_all Tries (map again s.carried) (map own (items_from 0 calls)) (carried_are s.carried h) (items_are 0 calls k)

  entries_over : (db : Database) (attempts : List Attempt) → AllByRecursion Tries attempts → AreCallsOver tables (entries_in (map (transaction_of db) attempts))
  entries_over db [] h = tt
  entries_over db (attempt ∷ attempts) h = (call_over tables db attempt.request h.0, entries_over db attempts h.1)

  entries_values : (db : Database) (attempts : List Attempt) → AllByRecursion Tries attempts → AllByRecursion IsValueCall (entries_in (map (transaction_of db) attempts))
  entries_values db [] h = tt
  entries_values db (attempt ∷ attempts) h = (call_value tables db attempt.request h.0, entries_values db attempts h.1)

  numbered_are : (first : ℕ) (attempts : List Attempt) → AllByRecursion Tries attempts → AllByRecursion (λ (one : Numbered). Tries one.attempt) (numbered_from first attempts)
  numbered_are first [] h = tt
  numbered_are first (attempt ∷ attempts) h = (h.0, numbered_are (first + 1) attempts h.1)

  left_are : (retries first : ℕ) (attempts : List Attempt) (replies : List Reply) → AllByRecursion Tries attempts → Carries (left_of retries first attempts replies)
  left_are retries first attempts replies h =
      map_all (λ (ended : Numbered × Reply). Tries ended.0.attempt) (λ (one : Carried). IsSaidCall tables one.request) (λ ended. carried_on ended.0)
      (filter (is_left retries) (zip (numbered_from first attempts) replies)) (λ ended k. k)
      (filter_all (λ (ended : Numbered × Reply). Tries ended.0.attempt) (is_left retries) (zip (numbered_from first attempts) replies)
      (zip_all (λ (one : Numbered). Tries one.attempt) (numbered_from first attempts) replies (numbered_are first attempts h)))

  batch_is : (retries : ℕ) (s : Standing) (calls : List Call) → IsSaidStanding s → AllByRecursion Is calls → IsSaidStanding (after_batch retries s calls)
  batch_is retries s calls h k =
      let attempts = attempts_are s calls h.carried k in
      record {
        rows = leaves tables (entries_in (transactions_at s calls)) s.rows (entries_over s.rows (attempts_at s calls) attempts) (entries_values s.rows (attempts_at s calls) attempts) h.rows;
        carried = left_are retries s.next (attempts_at s calls) (replies_at s calls) attempts;
      }

  batches_are : (retries : ℕ) (s : Standing) (batches : List (List Call)) → IsSaidStanding s → AllByRecursion (λ calls. AllByRecursion Is calls) batches → IsSaidStanding (after_batches retries s batches)
  batches_are retries s [] h k = h
  batches_are retries s (calls ∷ rest) h k = batches_are retries (after_batch retries s calls) rest (batch_is retries s calls h k.0) k.1

  -- the rows that batches leave, from rows of the tables
  pub rows_after_batches : (retries : ℕ) (db : Database) (batches : List (List Call)) → AreRowsIn tables db → AllByRecursion (λ calls. AllByRecursion Is calls) batches → AreRowsIn tables (after_batches retries (start_of db) batches).rows
  rows_after_batches retries db batches h k = (batches_are retries (start_of db) batches (record { rows = h; carried = tt }) k).rows

  -- ---- the batches that close a log

  while_are : (carried : List Carried) (rest : List (List Call)) → AllByRecursion (λ calls. AllByRecursion Is calls) rest → AllByRecursion (λ calls. AllByRecursion Is calls) (while_carried carried rest)
  while_are [] rest h = tt
  while_are (c ∷ cs) rest h = (tt, h)

  closing_are : (retries most : ℕ) (s : Standing) → AllByRecursion (λ calls. AllByRecursion Is calls) (closing_within retries most s)
  closing_are retries zero s = tt
  closing_are retries (suc most) s = while_are s.carried (closing_within retries most (after_batch retries s [])) (closing_are retries most (after_batch retries s []))

  pub closed_are : (retries : ℕ) (faulty : Bool) (s : Standing) (batches : List (List Call)) → AllByRecursion (λ calls. AllByRecursion Is calls) batches → AllByRecursion (λ calls. AllByRecursion Is calls) (closed retries faulty s batches)
  closed_are retries true s [] h = tt
  closed_are retries false s [] h = closing_are retries retries s
  closed_are retries faulty s (calls ∷ rest) h = (h.0, closed_are retries faulty (after_batch retries s calls) rest h.1)

-- of batches, those before others
pub front_all : {A : Type 0} (P : A → Type 0) (xs ys : List A) → AllByRecursion P (xs ++ ys) → AllByRecursion P xs
front_all P [] ys h = tt
front_all P (x ∷ xs) ys h = (h.0, front_all P xs ys h.1)
