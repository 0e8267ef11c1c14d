-- Claimed: what contracts promise to a reader rests on these words.
-- Attempts of requests, and the requests that are tried again.
use Rattle.std.specs.Prelude.{◌≡◌, ℕ, ◌+◌, Bool, true, false, cond, nat_lt, List, [], ◌∷◌, ◌++◌, map, filter, Option, Some, None}
use Rattle.std.specs.List.{AllByRecursion, zip}
use Rattle.catalogue.specs.Shapes.{TableShape}
use Rattle.meaning.specs.Entries.{Reply, commit, aborted, stale}
use Rattle.requests.specs.Requests.{Call}
use Rattle.sequencer.specs.Batches.{RequestItem, items_of}
use Rattle.sequencer.specs.declared.attempts.Attempts.{Attempts}
use Rattle.sequencer.specs.declared.attempts.Carried.{Carried}
use Rattle.sequencer.specs.declared.batch.Batch.{Batch}

-- the attempts of a request before one: the number of the transaction of the first, and how many
pub record Earlier : Type 0 where
  pub first : ℕ
  pub tries : ℕ

-- a request that is tried, of a client and with its number among those of the client, and what was before, if anything
pub record Attempt : Type 0 where
  pub client : ℕ
  pub number : ℕ
  pub request : Call
  pub before : Option Earlier

-- a carried request is tried once more
abbrev pub again : Carried → Attempt
again carried = record {
  client = carried.client;
  number = carried.number;
  request = carried.request;
  before = Some (record { first = carried.first; tries = carried.tries });
}

-- a batch's own call is tried for the first time
abbrev pub own : RequestItem → Attempt
own item = record { client = item.client; number = item.number; request = item.request; before = None }

-- rule: retry.head
-- the attempts of a batch: the carried ones come first
abbrev pub attempts_of : List Carried → List RequestItem → List Attempt
attempts_of carried items = map again carried ++ map own items

abbrev pub carried_of : Attempts → List Carried
carried_of attempts = attempts.carried.items

abbrev pub batch_of : Attempts → Batch
batch_of attempts = attempts.batch

-- the attempts of a batch of the code: the carried requests, and then its own calls
abbrev pub attempts_in : Attempts → List Attempt
attempts_in attempts = attempts_of (carried_of attempts) (items_of (batch_of attempts))

-- their requests
abbrev pub requests_of : List Carried → List RequestItem → List Call
requests_of carried items = map (λ attempt. attempt.request) (attempts_of carried items)

abbrev pub requests_in : Attempts → List Call
requests_in attempts = requests_of (carried_of attempts) (items_of (batch_of attempts))

-- each carried request is of a procedure over those tables
abbrev pub AreCarriedOver : List TableShape → List Carried → Type 0
AreCarriedOver tables carried = AllByRecursion (λ one. one.request.proc.tables ≡ tables) carried

-- each request is of a procedure over those tables
abbrev pub AreRequestsOver : List TableShape → List Call → Type 0
AreRequestsOver tables requests = AllByRecursion (λ request. request.proc.tables ≡ tables) requests

-- an attempt, and the number of its transaction
pub record Numbered : Type 0 where
  pub no : ℕ
  pub attempt : Attempt

-- rule: log.numbers
-- each attempt has a transaction's number of its own: they go up by one from a first one
abbrev pub numbered_from : ℕ → List Attempt → List Numbered
numbered_from first_no [] = []
numbered_from first_no (attempt ∷ attempts) =
    record { no = first_no; attempt = attempt } ∷ numbered_from (first_no + 1) attempts

-- the reply is that it is stale
abbrev pub is_stale : Reply → Bool
is_stale (commit values) = false
is_stale (aborted code) = false
is_stale stale = true

-- how many attempts were before
abbrev pub tries_of : Option Earlier → ℕ
tries_of None = 0
tries_of (Some earlier) = earlier.tries

-- the number of the first attempt, of an attempt with that number
abbrev pub first_of : ℕ → Option Earlier → ℕ
first_of own_no None = own_no
first_of own_no (Some earlier) = earlier.first

-- whether a request is tried again that had that many attempts before and ended so: it was stale, and had fewer before
abbrev pub goes_on : ℕ → ℕ → Reply → Bool
goes_on retries tries reply = cond (is_stale reply) (nat_lt tries retries) false

-- the request of this attempt is tried again
abbrev pub is_left : ℕ → Numbered × Reply → Bool
is_left retries ended = goes_on retries (tries_of ended.0.attempt.before) ended.1

-- the request after one more attempt
abbrev pub carried_on : Numbered → Carried
carried_on tried = record {
  client = tried.attempt.client;
  number = tried.attempt.number;
  request = tried.attempt.request;
  first = first_of tried.no tried.attempt.before;
  tries = tries_of tried.attempt.before + 1;
}

-- of attempts that ended so, the requests that are tried again, in their order
abbrev pub left_of : ℕ → ℕ → List Attempt → List Reply → List Carried
left_of retries first_no attempts replies =
    map (λ ended. carried_on ended.0) (filter (is_left retries) (zip (numbered_from first_no attempts) replies))
