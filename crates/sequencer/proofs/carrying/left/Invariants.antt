use Rattle.std.proofs.Common.{◌≡◌, ◌+◌, ◌≤◌, ◌^◌, ◌++◌, length, map, filter, drop}
use Rattle.meaning.specs.Outcomes.{as_reply}
use Rattle.sequencer.specs.Attempts.{attempts_in, is_stale, left_of}
use Rattle.sequencer.specs.Endings.{left_in, next_no, retries_in, room_in, waiting_in}
use Rattle.sequencer.proofs.carrying.left.Given as goal

-- what is left so far, and after it what is left of the attempts that have no outcome yet, is what is left of all; there is room for it
abbrev pub invariant-loop-outcome : goal.invariant-loop-outcome
invariant-loop-outcome l = record {
  left : left_in l.ending ++ left_of l.retries (next_no l.ending) (waiting_in l.ending) (map as_reply (drop l.outcome-index l.outcomes))
      ≡ left_of l.retries l.first_no (attempts_in l.fn.attempts) (map as_reply l.outcomes);
  count : length (waiting_in l.ending) + l.outcome-index ≡ length l.outcomes;
  few : next_no l.ending + length (waiting_in l.ending) ≤ 2 ^ 48;
  retries : retries_in l.ending ≡ l.retries;
  room : length (left_in l.ending) + length (filter is_stale (map as_reply (drop l.outcome-index l.outcomes))) ≤ room_in l.ending;
}
