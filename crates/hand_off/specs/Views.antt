-- Claimed: what contracts promise to a reader rests on these words.
-- What a seat knows, and how the steps change it.
use Rattle.std.specs.Prelude.{ℕ, true, false, List, [], ◌∷◌, ◌++◌, length, replicate, None, Some, slice_set}
use Rattle.hand_off.specs.declared.state.LaneState.{LaneState}
use Rattle.hand_off.specs.declared.state.LaneState.TheVariants.{Waiting, Finished}
use Rattle.hand_off.specs.declared.state.Note.{Note}
use Rattle.hand_off.specs.declared.view.Known.{Known}
use Rattle.hand_off.specs.declared.view.Known.TheVariants.{Idle, Put}
use Rattle.hand_off.specs.declared.view.View.{View}

module _ {J : Type 0} where
  -- the scheduler's view at the start, of n lanes
  abbrev pub opened : ℕ → View J
  opened n = record {
    schedules = true;
    known = replicate n Idle;
    puts = [];
    claimed = replicate n None;
    claims = [];
    notes = [];
  }

  -- the view of a worker's new seat, which is cut from the scheduler's with this view
  abbrev pub newcomer : View J → View J
  newcomer v = record
      { schedules = false; known = []; puts = []; claimed = replicate (length v.known) None; claims = []; notes = [] }

  -- this is known of a lane now
  abbrev pub knowing : View J → ℕ → Known J → View J
  knowing v lane x = record v { known = slice_set v.known lane x }

  -- these are its notes now
  abbrev pub looked : View J → List Note → View J
  looked v notes = record v { notes = notes }

  -- a lane was looked at, and found so
  abbrev pub with_note : View J → ℕ → LaneState → View J
  with_note v lane found = record v { notes = v.notes ++ record { lane = lane; found = found } ∷ [] }

  -- a job was put into a lane
  abbrev pub putting : View J → ℕ → J → View J
  putting v lane job = record v { known = slice_set v.known lane (Put job); puts = v.puts ++ (lane, job) ∷ [] }

  -- what came of a lane's job was found and collected
  abbrev pub collecting : View J → ℕ → View J
  collecting v lane = knowing (with_note v lane Finished) lane Idle

  -- a lane's job was found and claimed, which was put there by the put of this number
  abbrev pub claiming : View J → ℕ → ℕ → J → View J
  claiming v lane put job = record v {
    claimed = slice_set v.claimed lane (Some job);
    claims = v.claims ++ record { put = put; lane = lane; job = job } ∷ [];
    notes = v.notes ++ record { lane = lane; found = Waiting } ∷ [];
  }

  -- a lane's job was delivered
  abbrev pub delivering : View J → ℕ → View J
  delivering v lane = record v { claimed = slice_set v.claimed lane None }
