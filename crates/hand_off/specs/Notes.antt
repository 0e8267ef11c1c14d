-- Claimed: what contracts promise to a reader rests on these words.
-- What a seat notes of the lanes that it looks at.
use Rattle.std.specs.Prelude.{◌≡◌, ◌≢◌, ℕ, List, [], ◌∷◌, ◌++◌, length, Some, slice_get}
use Rattle.hand_off.specs.declared.state.LaneState.{LaneState}
use Rattle.hand_off.specs.declared.state.Note.{Note}

-- notes are added of `count` lanes, each looked at once, from 0 on in order, and none found in this state
pub record Misses (state : LaneState) (count : ℕ) (before after : List Note) : Type 0 where
  pub added : List Note
  pub all : after ≡ before ++ added
  pub each : length added ≡ count
  pub in_order : (i : ℕ) (note : Note) → slice_get added i ≡ Some note → note.lane ≡ i
  pub missed : (i : ℕ) (note : Note) → slice_get added i ≡ Some note → note.found ≢ state

-- the same of all lanes below this one, and then this one was found in that state
pub record Finds (state : LaneState) (lane : ℕ) (before after : List Note) : Type 0 where
  pub below : List Note
  pub misses : Misses state lane before below
  pub found : after ≡ below ++ record { lane = lane; found = state } ∷ []
