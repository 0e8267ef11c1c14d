-- Claimed: what contracts promise to a reader rests on these words.
-- What the rule says of every state of the lanes.
use Rattle.std.specs.Prelude.{◌≡◌, ℕ, true, Some, None, slice_get, slice_index_or}
use mathlib.Core.Option.{some}
use lib.ListN.{get_elem?}
use Rattle.hand_off.specs.declared.view.Claim.{Claim}
use Rattle.hand_off.specs.declared.view.Known.TheVariants.{Idle, Put}
use Rattle.hand_off.specs.declared.view.View.{View}
use Rattle.hand_off.specs.Rule.{Laned}
use Rattle.hand_off.specs.Stands.{Moment}

module _ {J D : Type 0} (comes_of : J → D → Type 0) where
  -- the claim of this number that the seat a ever made
  pub record HasClaimed (s : Moment J D) (a k : ℕ) (c : Claim J) : Type 0 where
    pub view : View J
    pub seat : get_elem? s.views a ≡ some view
    pub claim : slice_get view.claims k ≡ Some c

  -- two claims of one put are one claim, by one seat
  abbrev pub ClaimedAtMostOnce : Type 0
  ClaimedAtMostOnce = (s : Moment J D) → Laned comes_of s → (a b k l : ℕ) (c d : Claim J) → HasClaimed s a k c
      → HasClaimed s b l d → c.put ≡ d.put → (a ≡ b) × (k ≡ l)

  -- and it is of that lane and of that job
  abbrev pub ClaimedAsPut : Type 0
  ClaimedAsPut = (s : Moment J D) → Laned comes_of s → (a b k : ℕ) (c : Claim J) (v : View J) → HasClaimed s a k c
      → get_elem? s.views b ≡ some v → v.schedules ≡ true
      → slice_get v.puts c.put ≡ Some (c.lane, c.job)

  -- the job that a seat has claimed at a lane and not delivered is the one that the scheduler's seat has there
  abbrev pub HeldAsPut : Type 0
  HeldAsPut = (s : Moment J D) → Laned comes_of s → (a b i : ℕ) (job : J) (v w : View J) → get_elem? s.views a ≡ some w
      → slice_index_or w.claimed i None ≡ Some job
      → get_elem? s.views b ≡ some v → v.schedules ≡ true → slice_index_or v.known i Idle ≡ Put job
