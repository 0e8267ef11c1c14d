-- The end of a batch.
use Rattle.std.proofs.Common.{◌≡◌, ℕ, ◌+◌, List, [], ◌∷◌, length, map, refl, sym, ap, ◌∙◌}
use Rattle.std.proofs.lemmas.List.{length-map}
use Rattle.values.specs.Database.{Database}
use Rattle.meaning.specs.declared.outcome.Outcome.{Outcome}
use Rattle.meaning.specs.Entries.{EntryShape, meaning}
use Rattle.meaning.specs.Outcomes.{as_reply}
use Rattle.meaning.specs.Serial.{serial_replies}
use Rattle.sequencer.specs.Attempts.{Attempt}
use Rattle.sequencer.specs.Entries.{prepared}
use Rattle.dispatcher.proofs.Told.{replies_each}
use Rattle.engine.specs.Batches.{entries_of}
use Rattle.engine.specs.Replies.{reply_of, sent_of, sent_from, first_attempt, settled, Sent}

pub settled_sent : (n : ℕ) (attempts : List Attempt) (outcomes : List Outcome) → length outcomes ≡ length attempts → map sent_of (settled n attempts outcomes) ≡ sent_from n attempts
settled_sent n [] [] h = refl
settled_sent n [] (o ∷ os) h = absurd cc
settled_sent n (a ∷ rest) [] h = absurd cc
settled_sent n (a ∷ rest) (o ∷ os) h = ap (λ (more : List Sent). record { transaction = n; client = a.client; number = a.number; of = first_attempt a } ∷ more) (settled_sent (n + 1) rest os (cc))

pub settled_replies : (n : ℕ) (attempts : List Attempt) (outcomes : List Outcome) → length outcomes ≡ length attempts → map reply_of (settled n attempts outcomes) ≡ map as_reply outcomes
settled_replies n [] [] h = refl
settled_replies n [] (o ∷ os) h = absurd cc
settled_replies n (a ∷ rest) [] h = absurd cc
settled_replies n (a ∷ rest) (o ∷ os) h = ap (λ more. as_reply o ∷ more) (settled_replies (n + 1) rest os (cc))

pub settled_count : (n : ℕ) (attempts : List Attempt) (outcomes : List Outcome) → length outcomes ≡ length attempts → length (settled n attempts outcomes) ≡ length attempts
settled_count n [] [] h = refl
settled_count n [] (o ∷ os) h = absurd cc
settled_count n (a ∷ rest) [] h = absurd cc
settled_count n (a ∷ rest) (o ∷ os) h = let more = settled_count (n + 1) rest os (cc) in cc

-- each attempt of the batch has an outcome
pub outcomes_each : (attempts : List Attempt) (entries : List EntryShape) (start : Database) (outcomes : List Outcome) → entries ≡ entries_of start attempts
    → map as_reply outcomes ≡ serial_replies entries start → length outcomes ≡ length attempts
outcomes_each attempts entries start outcomes es rs =
    sym (length-map outcomes as_reply) ∙ ap length rs ∙ replies_each entries start ∙ ap length es
    ∙ length-map (map (λ (attempt : Attempt). attempt.request) attempts) (prepared start) ∙ length-map attempts (λ attempt. attempt.request)
