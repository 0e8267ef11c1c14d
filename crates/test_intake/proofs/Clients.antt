-- The clients of a new intake.
use Rattle.std.proofs.Common.{ℕ, suc, ◌+◌, ◌<◌, List, [], ◌∷◌, length, zero, arith}
use Rattle.std.specs.Prelude.{slice_index_or}
use Rattle.intake.specs.declared.intake.Intake.{Intake}
use Rattle.intake.specs.declared.passes.ClientPass.{ClientPass}
use Rattle.intake.specs.Passes.{IsClientOf, AreClientsOf, AreNewClients}

module _ {Q : Type 0} where
  -- a list is of clients where each place is
  each : (intake : Intake Q) (ps : List (ClientPass Q)) → ((k : ℕ) (d : ClientPass Q) → k < length ps → IsClientOf intake (slice_index_or ps k d)) → AreClientsOf intake ps
  each intake [] h = tt
  each intake (p ∷ ps) h = (h 0 p (omega arith), each intake ps (λ k d less. h (suc k) d (omega arith)))

  pub new_are_clients : (intake : Intake Q) (clients : ℕ) (ps : List (ClientPass Q)) → AreNewClients intake clients ps → AreClientsOf intake ps
  new_are_clients intake clients ps h = each intake ps (λ k d less. (h k d less).pass)
