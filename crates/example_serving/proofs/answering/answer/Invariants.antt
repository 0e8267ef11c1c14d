use Rattle.std.proofs.Common.{◌≡◌, ◌+◌, ◌≤◌, ◌++◌, drop, length, map, take, vec_len, vec_capacity}
use Rattle.std.specs.Vec.Iter.{into_iter_items}
use Rattle.engine.specs.Replies.{reply_of}
use Rattle.example_serving.specs.Serving.{said_in, answers_to}
use Rattle.example_serving.specs.Steps.{said_by}
use Rattle.example_serving.proofs.answering.answer.Given as goal

-- what was said so far, and after it what is said to those who are left, is all that is to be said; and there is room for it
abbrev pub invariant-loop-asked : goal.invariant-loop-asked
invariant-loop-asked l = record {
  said : map said_in l.told.items ++ answers_to (into_iter_items l.asked-iterator) (map reply_of (into_iter_items l.replies))
      ≡ map said_in l.fn.told.items
      ++ (map said_by (take l.fn.carried l.fn.replies.items) ++ answers_to l.fn.asked.items (map reply_of (drop l.fn.carried l.fn.replies.items)));
  room : vec_len l.told + length (into_iter_items l.asked-iterator) ≤ vec_capacity l.told;
}
