use Rattle.std.proofs.Common.{◌≡◌, ◌+◌, ◌++◌, ◌≤◌, ◌<◌, ◌^◌, length, map}
use Rattle.std.specs.Vec.{vec_len, vec_capacity}
use Rattle.meaning.specs.Outcomes.{as_reply}
use Rattle.sequencer.specs.Attempts.{attempts_in, left_of}
use Rattle.sequencer.specs.Endings.{left_in, next_no, retries_in, room_in, waiting_in}
use Rattle.engine.specs.Replies.{settled}
use Rattle.engine.proofs.replies.fill.Given as goal

-- what was made so far, and after it what comes of the attempts that have no outcome yet, is what comes of all; there is room for it
abbrev pub invariant-loop-outcome : goal.invariant-loop-outcome
invariant-loop-outcome l = record {
  replies : l.replies.items ++ settled (next_no l.ending) (waiting_in l.ending) l.outcomes ≡ settled l.fn.first (attempts_in l.fn.attempts) l.fn.outcomes;
  left : left_in l.ending ++ left_of l.retries (next_no l.ending) (waiting_in l.ending) (map as_reply l.outcomes)
      ≡ left_of l.retries l.fn.first (attempts_in l.fn.attempts) (map as_reply l.fn.outcomes);
  each : length l.outcomes ≡ length (waiting_in l.ending);
  few : next_no l.ending + length (waiting_in l.ending) ≤ 2 ^ 48;
  retries : retries_in l.ending ≡ l.retries;
  room : vec_len l.replies + length (waiting_in l.ending) ≤ vec_capacity l.replies;
  left_room : 0 < l.retries → length (left_in l.ending) + length (waiting_in l.ending) ≤ room_in l.ending;
}

abbrev pub decreases-loop-outcome : goal.decreases-loop-outcome
decreases-loop-outcome l = length l.outcomes
