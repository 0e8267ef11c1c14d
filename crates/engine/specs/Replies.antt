-- Claimed: what contracts promise to a reader rests on these words.
-- The replies of a batch.
use Rattle.std.specs.Prelude.{ℕ, ◌+◌, List, [], ◌∷◌, Option, option_map}
use Rattle.meaning.specs.declared.outcome.Outcome.{Outcome}
use Rattle.meaning.specs.Outcomes.{as_reply}
use Rattle.meaning.specs.Entries as meant
use Rattle.sequencer.specs.Attempts.{Attempt}
use Rattle.engine.specs.declared.replies.Reply.{Reply}

-- what a reply says
abbrev pub reply_of : Reply → meant.Reply
reply_of reply = as_reply reply.outcome

-- the number of the request's first attempt, where this is a later one
abbrev pub first_attempt : Attempt → Option ℕ
first_attempt attempt = option_map (λ earlier. earlier.first) attempt.before

-- whom a reply is for: a transaction's number, its client, the request's number among those of the client, and the
-- number of the request's first attempt, where this is a later one
pub record Sent : Type 0 where
  pub transaction : ℕ
  pub client : ℕ
  pub number : ℕ
  pub of : Option ℕ

abbrev pub sent_of : Reply → Sent
sent_of reply = record { transaction = reply.no; client = reply.client; number = reply.number; of = reply.of }

-- the attempts of a batch, whose transactions are numbered from a first one
abbrev pub sent_from : ℕ → List Attempt → List Sent
sent_from transaction [] = []
sent_from transaction (attempt ∷ attempts) =
    record { transaction = transaction; client = attempt.client; number = attempt.number; of = first_attempt attempt }
    ∷ sent_from (transaction + 1) attempts

-- each attempt with its outcome
abbrev pub settled : ℕ → List Attempt → List Outcome → List Reply
settled transaction attempts [] = []
settled transaction [] (outcome ∷ outcomes) = []
settled transaction (attempt ∷ attempts) (outcome ∷ outcomes) =
    record {
      no = transaction;
      client = attempt.client;
      number = attempt.number;
      of = first_attempt attempt;
      outcome = outcome;
    } ∷ settled (transaction + 1) attempts outcomes
