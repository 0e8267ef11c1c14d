-- Claimed: what contracts promise to a reader rests on these words.
-- What a batch holds.
use Rattle.std.specs.Prelude.{◌≡◌, ℕ, ◌+◌, List, [], ◌∷◌}
use Rattle.std.specs.List.{AllByRecursion}
use Rattle.catalogue.specs.Shapes.{TableShape}
use Rattle.requests.specs.Requests.{Call}
use Rattle.batch_items.specs.declared.item.Item.{Item}
use Rattle.sequencer.specs.declared.batch.Batch.{Batch}

-- a request, its client, and its number among those of the client
abbrev pub RequestItem : Type 0
RequestItem = Item Call

-- the requests of a batch, each with its client and its number
abbrev pub items_of : Batch → List RequestItem
items_of batch = batch.items.items

-- requests that came with no client, numbered from a first one
abbrev pub items_from : ℕ → List Call → List RequestItem
items_from number [] = []
items_from number (request ∷ requests) =
    record { client = 0; number = number; request = request } ∷ items_from (number + 1) requests

-- each request is of a procedure over those tables
abbrev pub AreOver : List TableShape → List RequestItem → Type 0
AreOver tables items = AllByRecursion (λ item. item.request.proc.tables ≡ tables) items
