-- Claimed: what contracts promise to a reader rests on these words.
-- The word of a lane says what the lane is doing.
use Rattle.std.specs.Prelude.{ℕ}
use Rattle.hand_off.specs.declared.state.LaneState.{LaneState}
use Rattle.hand_off.specs.declared.state.LaneState.TheVariants.{Idle, Filling, Waiting, Taken, Finished, Draining}
use Rattle.hand_off.specs.declared.state.TheConstants.{IDLE, FILLING, WAITING, TAKEN, FINISHED, DRAINING}

abbrev pub word_of : LaneState → ℕ
word_of Idle = IDLE
word_of Filling = FILLING
word_of Waiting = WAITING
word_of Taken = TAKEN
word_of Finished = FINISHED
word_of Draining = DRAINING
