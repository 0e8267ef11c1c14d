-- Claimed: what contracts promise to a reader rests on these words.
-- What a clause says of lanes and of their seats.
use Rattle.std.specs.Prelude.{◌≡◌, ℕ, ◌<◌, true, ⊤, List, [], length, Option, slice_index_or}
use Rattle.atomic_table.specs.declared.shared.Seat.{Seat}
use Rattle.hand_off.specs.declared.view.Known.{Known}
use Rattle.hand_off.specs.declared.view.Known.TheVariants.{Idle, Filling, Put, Draining}
use Rattle.hand_off.specs.declared.view.LaneTable.{LaneTable}
use Rattle.hand_off.specs.declared.view.Load.{Load}
use Rattle.hand_off.specs.declared.view.View.{View}

abbrev pub LaneSeat : Type 0 → Type 0 → Type 0
LaneSeat J D = Seat (Option (Load J D)) (View J)

module _ {J : Type 0} where
  -- the lane has a job that isn't collected
  abbrev pub IsPut : Known J → Type 0
  IsPut Idle = ⊥
  IsPut Filling = ⊥
  IsPut (Put job) = ⊤
  IsPut (Draining job) = ⊥

  -- it is idle or has a job that isn't collected
  abbrev pub Rests : Known J → Type 0
  Rests Idle = ⊤
  Rests Filling = ⊥
  Rests (Put job) = ⊤
  Rests (Draining job) = ⊥

  abbrev pub AllRest : List (Known J) → Type 0
  AllRest all = (i : ℕ) → i < length all → Rests (slice_index_or all i Idle)

  -- a view of the scheduler's, which is in the midst of no call
  pub record AtRest (n : ℕ) (v : View J) : Type 0 where
    pub schedules : v.schedules ≡ true
    pub wide : length v.known ≡ n
    pub rests : AllRest v.known

module _ {J D Q A : Type 0} where
  -- the scheduler's seat of these lanes
  pub record Schedules (l : LaneTable (Option (Load J D)) (View J) Q A) (s : LaneSeat J D) : Type 0 where
    pub lanes : s.table_id ≡ l.table.shared.table_id
    pub no_slot : s.me.1 ≡ []
    pub at_rest : AtRest l.count s.me.0

  -- a worker's seat of these lanes
  pub record Works (l : LaneTable (Option (Load J D)) (View J) Q A) (s : LaneSeat J D) : Type 0 where
    pub lanes : s.table_id ≡ l.table.shared.table_id
    pub wide : length s.me.0.claimed ≡ l.count
