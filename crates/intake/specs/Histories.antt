-- Claimed: what contracts promise to a reader rests on these words.
-- Requests in the order in which they were submitted, and what a pass knows of them.
use Rattle.std.specs.Prelude.{◌≡◌, ℕ, ◌+◌, ◌==◌, Bool, true, false, List, [], ◌∷◌, ◌++◌, filter, cond, drop}
use Rattle.batch_items.specs.declared.item.Item.{Item}
use Rattle.intake.specs.declared.view.History.{History}
use Rattle.intake.specs.declared.view.View.{View}

module _ {Q : Type 0} where
  -- a client's requests as items, numbered from n
  abbrev pub numbered : ℕ → ℕ → List Q → List (Item Q)
  numbered client n [] = []
  numbered client n (x ∷ xs) = record { client = client; number = n; request = x } ∷ numbered client (n + 1) xs

  -- the items of a client, in their order
  abbrev pub from_client : ℕ → List (Item Q) → List (Item Q)
  from_client client items = filter (λ x. x.client == client) items

  -- each client's numbers are 0, 1, 2 and so on, in order and each once
  abbrev pub IsNumbered : List (Item Q) → Type 0
  IsNumbered items = (client : ℕ) → (sent : List Q) × (from_client client items ≡ numbered client 0 sent)

  -- of each of these clients the items are its history: every request that it submitted, in order and each once
  abbrev pub HasAll : List (Item Q) → List (History Q) → Type 0
  HasAll items [] = Unit {0}
  HasAll items (h ∷ hs) = (from_client h.client items ≡ numbered h.client 0 h.sent) × HasAll items hs

  -- what a client has submitted, in order
  abbrev pub history : ℕ → List Q → History Q
  history client sent = record { client = client; sent = sent }

  abbrev pub view : List (History Q) → Bool → List (Item Q) → View Q
  view histories draws drawn = record { histories = histories; draws = draws; drawn = drawn }

  -- ---- the views at the start

  -- the histories of all clients that there may be: nothing was submitted
  abbrev pub no_history : List (History Q)
  no_history = history 1 [] ∷ history 2 [] ∷ history 3 [] ∷ history 4 [] ∷ []

  -- the histories that a new client's pass has beside its own: the last client's has those of the clients that there
  -- are not
  abbrev pub spare_for : ℕ → ℕ → List (History Q)
  spare_for clients client = cond (client == clients) (drop client no_history) []

  -- the one view that there is at first
  abbrev pub first_view : View Q
  first_view = view no_history true []

  -- ---- how the steps change a view

  abbrev pub sent_first : List (History Q) → List Q
  sent_first [] = []
  sent_first (h ∷ hs) = h.sent

  abbrev pub longer : List (History Q) → Q → List (History Q)
  longer [] x = []
  longer (h ∷ hs) x = history h.client (h.sent ++ x ∷ []) ∷ hs

  -- the first history has one more request
  abbrev pub after_submit : View Q → Q → View Q
  after_submit v x = view (longer v.histories x) v.draws v.drawn

  -- one more item was drawn
  abbrev pub after_draw : View Q → Item Q → View Q
  after_draw v x = view v.histories v.draws (v.drawn ++ x ∷ [])

  -- ---- how a view is cut in two, and how two become one

  abbrev pub without_drawing : View Q → View Q
  without_drawing v = view v.histories false []

  abbrev pub only_drawing : View Q → View Q
  only_drawing v = view [] v.draws v.drawn

  abbrev pub first_of : List (History Q) → List (History Q)
  first_of [] = []
  first_of (h ∷ hs) = h ∷ []

  abbrev pub rest_of : List (History Q) → List (History Q)
  rest_of [] = []
  rest_of (h ∷ hs) = hs

  abbrev pub without_first : View Q → View Q
  without_first v = view (rest_of v.histories) v.draws v.drawn

  abbrev pub only_first : View Q → View Q
  only_first v = view (first_of v.histories) false []

  -- the first view with the histories of the second before its own
  abbrev pub joined : View Q → View Q → View Q
  joined v w = view (w.histories ++ v.histories) v.draws v.drawn

  -- what is left of a view that another took in
  abbrev pub spent : View Q
  spent = view [] false []
