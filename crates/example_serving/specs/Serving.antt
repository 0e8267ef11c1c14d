-- Claimed: what contracts promise to a reader rests on these words.
-- What the calls of several clients come to, which were drawn in batches.
use Rattle.std.specs.Prelude.{◌≡◌, ℕ, ◌+◌, ◌==◌, not, List, [], ◌∷◌, ◌++◌, Option, Some, None, Result, Ok, Err, Vec, length, drop, map, filter, ⊤}
use Rattle.std.specs.declared.alloc.Global.{Global}
use Rattle.meaning.specs.Entries.{Reply}
use Rattle.meaning.specs.Outcomes.{as_reply}
use Rattle.meaning.specs.declared.outcome.Outcome.{Outcome}
use Rattle.meaning.specs.Serial.{serial_end, serial_replies}
use Rattle.requests.specs.ProcLists.{ProcsParts}
use Rattle.requests.specs.declared.request.RequestFault.{RequestFault}
use Rattle.sequencer.specs.Attempts.{Attempt, attempts_of, left_of}
use Rattle.sequencer.specs.declared.attempts.Carried.{Carried}
use Rattle.retries.specs.Standings.{Standing}
use Rattle.engine.specs.Batches.{entries_of}
use Rattle.example_serving.specs.declared.told.Told.{Told}
use Rattle.example_serving.specs.declared.taking_in.Asked.{Asked}
use Rattle.example_serving.specs.Calls.{CallItem, requests_of, asked_of}

-- an answer, and whom it is for
pub record Said : Type 0 where
  pub client : ℕ
  pub number : ℕ
  pub answer : Result Reply RequestFault

-- the answer, as clauses see it
abbrev pub reply_in : Result Outcome RequestFault → Result Reply RequestFault
reply_in (Ok outcome) = Ok (as_reply outcome)
reply_in (Err fault) = Err fault

-- what was told: an answer, and whom it is for
abbrev pub said_in : Told → Said
said_in told = record { client = told.client; number = told.number; answer = reply_in told.answer }

-- an answer to one who asked
abbrev pub said : Asked → Result Reply RequestFault → Said
said asked answer = record { client = asked.client; number = asked.number; answer = answer }

-- what is said to those who asked: why a call is no request, and to the others the replies, one after another
abbrev pub said_to : Asked → Option RequestFault → (List Reply → List Said) → List Reply → List Said
said_to asked (Some fault) others replies = said asked (Err fault) ∷ others replies
said_to asked None others [] = []
said_to asked None others (reply ∷ replies) = said asked (Ok reply) ∷ others replies

-- what is said to those who asked: why a call is no request, or the reply to the next one that is
abbrev pub answers_to : List Asked → List Reply → List Said
answers_to [] replies = []
answers_to (x ∷ xs) replies = said_to x x.refused (answers_to xs) replies

-- what is said again to those whose requests were carried: the replies, one after another
abbrev pub said_again : List Carried → List Reply → List Said
said_again [] replies = []
said_again (one ∷ others) [] = []
said_again (one ∷ others) (reply ∷ replies) =
    record { client = one.client; number = one.number; answer = Ok reply } ∷ said_again others replies

-- the attempts of a batch of calls: what is carried comes before the requests that procedures make of the calls
abbrev pub attempts_for : ProcsParts → Standing → List CallItem → List Attempt
attempts_for procs s items = attempts_of s.carried (requests_of procs items)

-- the replies of a batch of calls: those of the serial run of its attempts
abbrev pub replies_for : ProcsParts → Standing → List CallItem → List Reply
replies_for procs s items = serial_replies (entries_of s.rows (attempts_for procs s items)) s.rows

-- what is said where a batch of calls is answered: the first replies go to those whose requests were carried, and the
-- others to those who asked
abbrev pub batch_said : ProcsParts → Standing → List CallItem → List Said
batch_said procs s items = said_again s.carried (replies_for procs s items)
    ++ answers_to (asked_of procs items) (drop (length s.carried) (replies_for procs s items))

-- what a batch of calls leaves: each attempt has a number, the rows are those of the serial run, and stale requests are
-- carried on
abbrev pub batch_end : ℕ → ProcsParts → Standing → List CallItem → Standing
batch_end retries procs s items = record {
  next = s.next + length (attempts_for procs s items);
  rows = serial_end (entries_of s.rows (attempts_for procs s items)) s.rows;
  carried = left_of retries s.next (attempts_for procs s items) (replies_for procs s items);
}

-- the same of batches, each where the one before it has left the log
abbrev pub all_said : ℕ → ProcsParts → Standing → List (List CallItem) → List Said
all_said retries procs s [] = []
all_said retries procs s (b ∷ bs) = batch_said procs s b ++ all_said retries procs (batch_end retries procs s b) bs

-- where a service is after all batches
abbrev pub all_end : ℕ → ProcsParts → Standing → List (List CallItem) → Standing
all_end retries procs s [] = s
all_end retries procs s (b ∷ bs) = all_end retries procs (batch_end retries procs s b) bs

-- the answers to a client, in their order
abbrev pub said_to_client : ℕ → List Said → List Said
said_to_client client all = filter (λ s. s.client == client) all

abbrev pub said_to_others : ℕ → List Said → List Said
said_to_others client all = filter (λ s. not (s.client == client)) all

-- each list has what was said to its client, in its order; the clients are numbered from a first one
abbrev pub AreToClients : ℕ → List (Vec Told Global) → List Said → Type 0
AreToClients client [] all = ⊤
AreToClients client (list ∷ lists) all =
    (map said_in list.items ≡ said_to_client client all) × AreToClients (client + 1) lists all
