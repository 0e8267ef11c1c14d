-- Of the code: invariants and steps; no promise rests on these words.
-- The next attempt of a batch.
use Rattle.std.specs.Prelude.{◌≡◌, ℕ, ◌∷◌, Option}
use Rattle.sequencer.specs.Attempts.{Attempt, first_of, tries_of}
use Rattle.sequencer.specs.Batches.{RequestItem}
use Rattle.sequencer.specs.Endings.{earlier_of, waiting_in}
use Rattle.sequencer.specs.declared.attempts.Carried.{Carried}
use Rattle.sequencer.specs.declared.ending.Ending.{Ending}

-- an attempt with that number, as if its request were carried to it
abbrev pub as_carried : ℕ → Attempt → Carried
as_carried transaction attempt = record {
  client = attempt.client;
  number = attempt.number;
  request = attempt.request;
  first = first_of transaction attempt.before;
  tries = tries_of attempt.before;
}

abbrev pub own_carried : ℕ → RequestItem → Carried
own_carried transaction item = record {
  client = item.client;
  number = item.number;
  request = item.request;
  first = transaction;
  tries = 0;
}

-- an attempt was taken from those that wait
pub record IsNextAttempt (old new : Ending) (result : Carried × Option ℕ) : Type 0 where
  pub attempt : Attempt
  pub waited : waiting_in old ≡ attempt ∷ waiting_in new
  pub carried : result.0 ≡ as_carried old.no attempt
  pub of : result.1 ≡ earlier_of attempt
  pub no : new.no ≡ old.no
  pub retries : new.retries ≡ old.retries
  pub left : new.left ≡ old.left
