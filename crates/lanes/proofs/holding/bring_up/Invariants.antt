use Rattle.std.proofs.Common.{◌≡◌, ℕ}
use Rattle.std.specs.Prelude.{Contains}
use Rattle.std.specs.VecDeque.{deque_capacity, deque_len}
use Rattle.lanes.specs.Kept.{empties}
use Rattle.lanes.proofs.Places.{first_place}
use Rattle.lanes.proofs.holding.bring_up.Given as goal

abbrev pub invariant-loop-held : goal.invariant-loop-held
invariant-loop-held l = (l.seat.table_id ≡ l.initial.seat.table_id) × (l.seat.me ≡ (l.initial.seat.me.0, empties l.held.items)) × ((k : ℕ) → Contains l.initial.held.items k → Contains l.held.items k)
    × (deque_len l.held ≡ deque_len l.initial.held) × (deque_capacity l.held ≡ deque_capacity l.initial.held)

abbrev pub decreases-loop-held : goal.decreases-loop-held
decreases-loop-held l = first_place l.lane l.held.items
