use Rattle.std.proofs.Common.{◌≡◌, ◌++◌, map}
use Rattle.std.specs.Vec.Iter.{into_iter_items}
use Rattle.example_serving.specs.Serving.{said_in, said_to_client, said_to_others}
use Rattle.example_serving.proofs.by_client.apart.Given as goal

-- what was set apart so far, and after it what is so of those that are left, is what is so of all
abbrev pub invariant-loop-told : goal.invariant-loop-told
invariant-loop-told l = record {
  own : map said_in l.own.items ++ said_to_client l.client (map said_in (into_iter_items l.told-iterator)) ≡ said_to_client l.client (map said_in l.fn.told.items);
  others : map said_in l.others.items ++ said_to_others l.client (map said_in (into_iter_items l.told-iterator)) ≡ said_to_others l.client (map said_in l.fn.told.items);
}
