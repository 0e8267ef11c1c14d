use Rattle.std.proofs.Common.{◌≡◌, ◌++◌}
use Rattle.std.specs.Vec.Iter.{into_iter_items}
use Rattle.sequencer.specs.Batches.{AreOver}
use Rattle.example_serving.specs.Calls.{requests_of, asked_of}
use Rattle.example_serving.proofs.taking_in.take_in.Given as goal

-- what was made so far, and after it what the calls that are left make, is what all calls make
abbrev pub invariant-loop-item : goal.invariant-loop-item
invariant-loop-item l = record {
  requests : l.requests.items ++ requests_of l.procs (into_iter_items l.item-iterator) ≡ requests_of l.procs l.fn.items.items;
  asked : l.asked.items ++ asked_of l.procs (into_iter_items l.item-iterator) ≡ asked_of l.procs l.fn.items.items;
  over : AreOver l.procs.tables l.requests.items;
}
