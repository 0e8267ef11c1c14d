-- Claimed: what contracts promise to a reader rests on these words.
-- The rule of the queue: what holds of its items and of all passes' views between any two steps. The log is what was
-- drawn and then what the queue holds. Of each client it has its history. To submit for a client, and to draw, is each
-- the right of one pass at most.
use Rattle.std.specs.Prelude.{◌≡◌, ℕ, ◌+◌, ◌<◌, ◌≤◌, ◌==◌, ◌⊎◌, true, List, [], ◌∷◌, ◌++◌, cond}
use mathlib.Core.Option.{some}
use lib.ListN.{get_elem?}
use Rattle.batch_items.specs.declared.item.Item.{Item}
use Rattle.intake.specs.declared.view.History.{History}
use Rattle.intake.specs.declared.view.View.{View}
use Rattle.intake.specs.Histories.{from_client, numbered, HasAll}

-- a number that no client has: clients are numbered from 1 to 4
abbrev pub IsStranger : ℕ → Type 0
IsStranger client = (client ≡ 0) ⊎ (4 < client)

module _ {Q : Type 0} where
  -- no stranger sent any of these items
  abbrev pub HasNoStranger : List (Item Q) → Type 0
  HasNoStranger items = (client : ℕ) → IsStranger client → from_client client items ≡ []

  -- the items are all that was submitted, as far as these histories tell: each of them whole, and nothing of a stranger
  abbrev pub IsWhole : List (Item Q) → List (History Q) → Type 0
  IsWhole items histories = HasAll items histories × HasNoStranger items

  -- how often the client's history is among these
  abbrev pub times : ℕ → List (History Q) → ℕ
  times client [] = 0
  times client (h ∷ hs) = cond (h.client == client) 1 0 + times client hs

  -- a number of each view, added up
  abbrev pub total : (View Q → ℕ) → List (View Q) → ℕ
  total f [] = 0
  total f (v ∷ vs) = f v + total f vs

  abbrev pub rights : ℕ → View Q → ℕ
  rights client v = times client v.histories

  abbrev pub drawers : View Q → ℕ
  drawers v = cond v.draws 1 0

  -- the histories are of clients 1 to 4, and each is what its client sent
  abbrev pub AreTrue : (ℕ → List Q) → List (History Q) → Type 0
  AreTrue sent [] = Unit {0}
  AreTrue sent (h ∷ hs) = (0 < h.client) × (h.client ≤ 4) × (h.sent ≡ sent h.client) × AreTrue sent hs

  -- what holds of the queue between two steps: client by client, what was drawn and then what is in the queue is what
  -- was submitted; one pass at most submits for a client, and one at most draws
  pub record IsInOrder (items : List (Item Q)) (views : List (View Q)) : Type 0 where
    -- what each client sent, and what was drawn
    pub sent : ℕ → List Q
    pub drawn : List (Item Q)
    pub logged : (client : ℕ) → from_client client (drawn ++ items) ≡ numbered client 0 (sent client)
    pub strangers : (client : ℕ) → IsStranger client → sent client ≡ []
    pub one_place : (client : ℕ) → total (rights client) views ≤ 1
    pub one_drawer : total drawers views ≤ 1
    pub histories : (pass : ℕ) (v : View Q) → get_elem? views pass ≡ some v → AreTrue sent v.histories
    pub draws : (pass : ℕ) (v : View Q) → get_elem? views pass ≡ some v → v.draws ≡ true → v.drawn ≡ drawn

  -- the queue may hold these items: after what was drawn they make the histories of a view whole, and no stranger sent
  -- any. What was drawn is what the view says, if it draws
  pub record IsAccounted (v : View Q) (items : List (Item Q)) : Type 0 where
    pub drawn : List (Item Q)
    pub known : v.draws ≡ true → v.drawn ≡ drawn
    pub whole : HasAll (drawn ++ items) v.histories
    pub strangers : HasNoStranger (drawn ++ items)
