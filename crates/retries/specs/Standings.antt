-- Claimed: what contracts promise to a reader rests on these words.
-- The serial run of batches one after another, where stale requests are tried again.
use Rattle.std.specs.Prelude.{ℕ, zero, suc, ◌+◌, ◌-◌, Bool, false, cond, ◌==◌, List, [], ◌∷◌, length, map, Option, Some, None, option_map}
use Rattle.std.specs.List.{sum_by}
use Rattle.values.specs.Database.{Database}
use Rattle.requests.specs.Requests.{Call}
use Rattle.meaning.specs.Entries.{Reply}
use Rattle.meaning.specs.Serial.{serial_end, serial_replies}
use Rattle.sequencer.specs.declared.attempts.Carried.{Carried}
use Rattle.sequencer.specs.Attempts.{Attempt, attempts_of, left_of}
use Rattle.sequencer.specs.Batches.{items_from}
use Rattle.sequencer.specs.Entries.{prepared}
use Rattle.report_text.specs.Report.{Transaction, entries_in, all_transactions}

-- where a log is between two batches: the number of the next transaction, the database, and the carried requests
pub record Standing : Type 0 where
  pub next : ℕ
  pub rows : Database
  pub carried : List Carried

-- before the first batch
abbrev pub start_of : Database → Standing
start_of db = record { next = 0; rows = db; carried = [] }

-- ---- one batch

-- rule: retry.first
-- the attempts of the next batch, of these calls: the carried requests come before them
abbrev pub attempts_at : Standing → List Call → List Attempt
attempts_at s calls = attempts_of s.carried (items_from 0 calls)

-- the transaction of an attempt, whose entry is prepared on that database
abbrev pub transaction_of : Database → Attempt → Transaction
transaction_of db attempt = record {
  entry = prepared db attempt.request;
  of = option_map (λ earlier. earlier.first) attempt.before;
}

-- a later attempt of the request whose first attempt has that number
abbrev pub is_later_of : ℕ → Option ℕ → Bool
is_later_of first None = false
is_later_of first (Some n) = n == first

-- the transactions of the next batch
abbrev pub transactions_at : Standing → List Call → List Transaction
transactions_at s calls = map (transaction_of s.rows) (attempts_at s calls)

-- the replies of the next batch
abbrev pub replies_at : Standing → List Call → List Reply
replies_at s calls = serial_replies (entries_in (transactions_at s calls)) s.rows

-- what a batch of these calls leaves
abbrev pub after_batch : ℕ → Standing → List Call → Standing
after_batch retries s calls = record {
  next = s.next + length (attempts_at s calls);
  rows = serial_end (entries_in (transactions_at s calls)) s.rows;
  carried = left_of retries s.next (attempts_at s calls) (replies_at s calls);
}

-- ---- batches one after another

-- what batches leave, one after another
abbrev pub after_batches : ℕ → Standing → List (List Call) → Standing
after_batches retries s [] = s
after_batches retries s (calls ∷ rest) = after_batches retries (after_batch retries s calls) rest

-- the transactions of batches, one after another
abbrev pub in_turn : ℕ → Standing → List (List Call) → List (List Transaction)
in_turn retries s [] = []
in_turn retries s (calls ∷ rest) = transactions_at s calls ∷ in_turn retries (after_batch retries s calls) rest

-- the transactions of batches from the start on, all in one list
abbrev pub transactions_in : ℕ → Database → List (List Call) → List Transaction
transactions_in retries db batches = all_transactions (in_turn retries (start_of db) batches)

-- how many attempts carried requests may still have, all together
abbrev pub may_have : ℕ → List Carried → ℕ
may_have retries carried = sum_by (λ one. (retries + 1) - one.tries) carried

-- how many calls batches have
abbrev pub call_count : List (List Call) → ℕ
call_count batches = sum_by (λ calls. length calls) batches

-- ---- the end of a log

-- one more batch without calls, while something is carried
abbrev pub while_carried : List Carried → List (List Call) → List (List Call)
while_carried [] rest = []
while_carried (c ∷ cs) rest = [] ∷ rest

-- batches without calls, one after another while something is carried, `most` of them at most
abbrev pub closing_within : ℕ → ℕ → Standing → List (List Call)
closing_within retries zero s = []
closing_within retries (suc most) s = while_carried s.carried (closing_within retries most (after_batch retries s []))

-- rule: retry.end
-- the batches without calls after a log's last one: no request is tried again more often than the setup says, so they
-- are no more than that
abbrev pub closing : ℕ → Standing → List (List Call)
closing retries s = closing_within retries retries s

-- the batches of a log: those of its calls, and after them, where it ends without a fault, those that close it
abbrev pub closed : ℕ → Bool → Standing → List (List Call) → List (List Call)
closed retries faulty s [] = cond faulty [] (closing retries s)
closed retries faulty s (calls ∷ rest) = calls ∷ closed retries faulty (after_batch retries s calls) rest
