-- Claimed: what contracts promise to a reader rests on these words.
-- Draining an intake: batches are appended, and each client's history goes to the pass that draws and comes back.
use Rattle.std.specs.Prelude.{◌≡◌, ◌<◌, ◌≤◌, false, List, [], ◌∷◌, ◌++◌, length}
use Rattle.crossbeam_queue.specs.Passes.{IsPassOf}
use Rattle.crossbeam_queue.specs.Passes.{view as known}
use Rattle.batch_items.specs.declared.item.Item.{Item}
use Rattle.intake.specs.declared.view.History.{History}
use Rattle.intake.specs.declared.intake.Intake.{Intake}
use Rattle.intake.specs.declared.passes.ClientPass.{ClientPass}
use Rattle.intake.specs.Histories.{view}
use Rattle.intake.specs.Passes.{sent_by, spare_of}

module _ {Q B : Type 0} (items_of : B → List (Item Q)) where
  -- the items of batches, one batch after another
  abbrev pub all_items : List B → List (Item Q)
  all_items [] = []
  all_items (b ∷ bs) = items_of b ++ all_items bs

  -- each of these batches has at least one item, and at most 4,096
  abbrev pub AreBatches : List B → Type 0
  AreBatches [] = Unit {0}
  AreBatches (b ∷ bs) = (0 < length (items_of b)) × (length (items_of b) ≤ 4096) × AreBatches bs

  -- what was drawn in between was appended, in batches
  abbrev pub Appends : List B → List B → List (Item Q) → List (Item Q) → Type 0
  Appends old new before after =
      (more : List B) × (new ≡ old ++ more) × (after ≡ before ++ all_items more) × AreBatches more

module _ {Q : Type 0} where
  -- the pass once its client's history is with another pass: the spare ones are left
  pub record IsLentBy (intake : Intake Q) (old new : ClientPass Q) : Type 0 where
    pub pass : IsPassOf intake.queue new.pass
    pub view : known new.pass ≡ view (spare_of old) false []
    pub client : new.client ≡ old.client
    pub count : new.sent ≡ length (sent_by old)

  -- the pass once these histories are back, before those that it had
  pub record IsBackWith (intake : Intake Q) (hs : List (History Q)) (old new : ClientPass Q) : Type 0 where
    pub pass : IsPassOf intake.queue new.pass
    pub view : known new.pass ≡ view (hs ++ (known old.pass).histories) (known old.pass).draws (known old.pass).drawn
    pub client : new.client ≡ old.client
    pub count : new.sent ≡ old.sent
