-- Claimed: what contracts promise to a reader rests on these words.
-- Clients at their logs.
use Rattle.std.specs.Prelude.{◌≡◌, ℕ, ◌+◌, List, [], ◌∷◌, ◌++◌, ⊤}
use Rattle.std.specs.Vec.Iter.{into_iter_items}
use Rattle.intake.specs.declared.intake.Intake.{Intake}
use Rattle.intake.specs.Histories.{spare_for}
use Rattle.intake.specs.Passes.{client_of, sent_by, spare_of}
use Rattle.example_serving.specs.declared.call.ClientCall.{ClientCall}
use Rattle.example_serving.specs.declared.client.Client.{Client}
use Rattle.example_serving.specs.Logs.{ClientLog}

-- one of the clients of an intake, with this number, which has submitted nothing: all of its log is left
pub record IsAtItsLog (intake : Intake ClientCall) (clients number : ℕ) (at : Client) (log : ClientLog) : Type 0 where
  pub intake_is : at.intake.now ≡ intake
  pub client_is : client_of at.pass ≡ number
  pub sent : sent_by at.pass ≡ []
  pub spare : spare_of at.pass ≡ spare_for clients number
  pub log_is : into_iter_items at.log ≡ log.items

-- a client at each log, numbered from a first one
abbrev pub AreAtTheirLogs : Intake ClientCall → ℕ → ℕ → List Client → List ClientLog → Type 0
AreAtTheirLogs intake clients number [] [] = ⊤
AreAtTheirLogs intake clients number [] (log ∷ logs) = ⊥
AreAtTheirLogs intake clients number (c ∷ cs) [] = ⊥
AreAtTheirLogs intake clients number (c ∷ cs) (log ∷ logs) =
    IsAtItsLog intake clients number c log × AreAtTheirLogs intake clients (number + 1) cs logs

-- a client has submitted what was left of its log, after what it had submitted before
pub record HasSubmitted (old new : Client) : Type 0 where
  pub intake : new.intake ≡ old.intake
  pub client : client_of new.pass ≡ client_of old.pass
  pub spare : spare_of new.pass ≡ spare_of old.pass
  pub sent : sent_by new.pass ≡ sent_by old.pass ++ into_iter_items old.log

-- each of them has
abbrev pub HaveSubmitted : List Client → List Client → Type 0
HaveSubmitted [] [] = ⊤
HaveSubmitted [] (new ∷ news) = ⊥
HaveSubmitted (old ∷ olds) [] = ⊥
HaveSubmitted (old ∷ olds) (new ∷ news) = HasSubmitted old new × HaveSubmitted olds news
