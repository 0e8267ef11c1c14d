use Rattle.std.proofs.Common.{◌≡◌, ◌+◌, ◌++◌, drop, map, take, vec_len, vec_capacity}
use Rattle.std.specs.Vec.Iter.{into_iter_items}
use Rattle.example_serving.specs.Serving.{said_in}
use Rattle.example_serving.specs.Steps.{said_by}
use Rattle.example_serving.proofs.answering.answer_again.Given as goal

-- so many replies were answered, and the others are left
abbrev pub invariant-loop : goal.invariant-loop
invariant-loop l = record {
  told : map said_in l.told.items ≡ map said_in l.initial.told.items ++ map said_by (take l.counter (into_iter_items l.initial.replies));
  replies : into_iter_items l.replies ≡ drop l.counter (into_iter_items l.initial.replies);
  count : vec_len l.told ≡ vec_len l.initial.told + l.counter;
  room : vec_capacity l.told ≡ vec_capacity l.initial.told;
}
