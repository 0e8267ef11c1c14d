-- Claimed: what contracts promise to a reader rests on these words.
-- What a clause says of an intake and of its passes.
use Rattle.std.specs.Prelude.{◌≡◌, ℕ, ◌+◌, ◌<◌, true, false, List, [], ◌∷◌, length, slice_index_or}
use Rattle.crossbeam_queue.specs.Passes.{IsPassOf, ruled_capacity}
use Rattle.crossbeam_queue.specs.Passes.{view as known}
use Rattle.batch_items.specs.declared.item.Item.{Item}
use Rattle.intake.specs.declared.view.History.{History}
use Rattle.intake.specs.declared.view.View.{View}
use Rattle.intake.specs.declared.intake.Intake.{Intake}
use Rattle.intake.specs.declared.passes.ClientPass.{ClientPass}
use Rattle.intake.specs.declared.passes.DrawPass.{DrawPass}
use Rattle.intake.specs.Histories.{history, view, sent_first, rest_of, spare_for, IsNumbered}

module _ {Q : Type 0} where
  -- how many requests the queue takes
  abbrev pub capacity_of : Intake Q → ℕ
  capacity_of intake = ruled_capacity intake.queue

  -- ---- the pass of a client

  -- the number of the client
  abbrev pub client_of : ClientPass Q → ℕ
  client_of p = p.client

  -- the number of requests that it counted
  abbrev pub count_of : ClientPass Q → ℕ
  count_of p = p.sent

  -- what its client has submitted: the client's history
  abbrev pub sent_by : ClientPass Q → List Q
  sent_by p = sent_first (known p.pass).histories

  -- the histories of clients that there are not: they have submitted nothing
  abbrev pub spare_of : ClientPass Q → List (History Q)
  spare_of p = rest_of (known p.pass).histories

  abbrev pub own_history : ClientPass Q → History Q
  own_history p = history p.client (sent_by p)

  abbrev pub histories_of : ClientPass Q → List (History Q)
  histories_of p = own_history p ∷ spare_of p

  abbrev pub known_by : ClientPass Q → View Q
  known_by p = known p.pass

  -- It is of this intake, alone submits for its client, and has counted what the client submitted. It may know more:
  -- other histories, and what was drawn, if it draws
  pub record MaySubmit (intake : Intake Q) (p : ClientPass Q) : Type 0 where
    pub pass : IsPassOf intake.queue p.pass
    pub view : known_by p ≡ view (histories_of p) (known_by p).draws (known_by p).drawn
    pub count : p.sent ≡ length (sent_by p)

  -- it submits, and doesn't draw
  pub record IsClientOf (intake : Intake Q) (p : ClientPass Q) : Type 0 where
    pub submits : MaySubmit intake p
    pub view : known_by p ≡ view (histories_of p) false []

  -- each pass of a list is a client's of this intake
  abbrev pub AreClientsOf : Intake Q → List (ClientPass Q) → Type 0
  AreClientsOf intake [] = Unit {0}
  AreClientsOf intake (p ∷ ps) = IsClientOf intake p × AreClientsOf intake ps

  -- the pass of the client of this number, of a new intake with that many clients
  pub record IsNewClient (intake : Intake Q) (clients number : ℕ) (p : ClientPass Q) : Type 0 where
    pub client : p.client ≡ number
    pub pass : IsClientOf intake p
    pub sent : sent_by p ≡ []
    pub spare : spare_of p ≡ spare_for clients number

  -- they are the passes of its clients 1, 2 and so on, in this order
  abbrev pub AreNewClients : Intake Q → ℕ → List (ClientPass Q) → Type 0
  AreNewClients intake clients ps =
      (k : ℕ) (d : ClientPass Q) → k < length ps → IsNewClient intake clients (k + 1) (slice_index_or ps k d)

  -- ---- the pass that draws

  -- all that it has drawn, in order
  abbrev pub drawn_by : DrawPass Q → List (Item Q)
  drawn_by p = (known p.pass).drawn

  -- the histories that it holds: of clients that have retired, and while the intake is drained of those at hand
  abbrev pub held_by : DrawPass Q → List (History Q)
  held_by p = (known p.pass).histories

  -- it is of this intake, alone draws, and has drawn each client's requests in order and each once
  pub record IsDrawerOf (intake : Intake Q) (p : DrawPass Q) : Type 0 where
    pub pass : IsPassOf intake.queue p.pass
    pub draws : (known p.pass).draws ≡ true
    pub numbered : IsNumbered (drawn_by p)
