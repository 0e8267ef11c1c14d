-- Claimed: what contracts promise to a reader rests on these words.
-- The end of a batch's attempts, one after another.
use Rattle.std.specs.Prelude.{◌≡◌, ℕ, ◌+◌, List, [], ◌∷◌, ◌++◌, cond, Option, option_map}
use Rattle.std.specs.Vec.{vec_capacity}
use Rattle.std.specs.Vec.Iter.{into_iter_items}
use Rattle.meaning.specs.Entries.{Reply}
use Rattle.sequencer.specs.Attempts.{Attempt, attempts_of, carried_on, is_left}
use Rattle.sequencer.specs.declared.attempts.Carried.{Carried}
use Rattle.sequencer.specs.declared.ending.Ending.{Ending}
use Rattle.sequencer.specs.declared.ending.Tried.{Tried}

-- the attempts that have no outcome yet
abbrev pub waiting_in : Ending → List Attempt
waiting_in ending = attempts_of (into_iter_items ending.carried) (into_iter_items ending.own)

-- the requests that are tried again, of the attempts that have ended
abbrev pub left_in : Ending → List Carried
left_in ending = ending.left.items

-- the number of the next attempt's transaction
abbrev pub next_no : Ending → ℕ
next_no ending = ending.no

-- how often a stale request is tried again
abbrev pub retries_in : Ending → ℕ
retries_in ending = ending.retries

-- how many requests find room among those that are tried again
abbrev pub room_in : Ending → ℕ
room_in ending = vec_capacity ending.left

-- the number of the request's first attempt, where this is a later one
abbrev pub earlier_of : Attempt → Option ℕ
earlier_of attempt = option_map (λ earlier. earlier.first) attempt.before

-- what a reply says of an attempt whose transaction has that number
abbrev pub tried_as : ℕ → Attempt → Tried
tried_as transaction attempt = record {
  no = transaction;
  client = attempt.client;
  number = attempt.number;
  of = earlier_of attempt;
}

-- an attempt has ended so: it was the next one, and its request is left if it is tried again
pub record HasEnded (reply : Reply) (old new : Ending) (tried : Tried) : Type 0 where
  pub attempt : Attempt
  pub waited : waiting_in old ≡ attempt ∷ waiting_in new
  pub told : tried ≡ tried_as (next_no old) attempt
  pub left : left_in new
      ≡ left_in old ++ cond (is_left (retries_in old) (record { no = next_no old; attempt = attempt }, reply))
      (carried_on (record { no = next_no old; attempt = attempt }) ∷ []) []
  pub next : next_no new ≡ next_no old + 1
  pub retries : retries_in new ≡ retries_in old
  pub room : room_in new ≡ room_in old
