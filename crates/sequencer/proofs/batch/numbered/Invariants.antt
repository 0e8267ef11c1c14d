use Rattle.std.proofs.Common.{◌≡◌, ◌++◌, ◌+◌, ◌≤◌, length}
use Rattle.std.specs.Vec.Iter.{into_iter_items}
use Rattle.sequencer.specs.Batches.{items_from}
use Rattle.sequencer.proofs.batch.numbered.Given as goal

-- the items so far, and after them those of the requests that are left, are those of all requests
abbrev pub invariant-loop-request : goal.invariant-loop-request
invariant-loop-request l =
    (l.items.items ++ items_from l.number (into_iter_items l.request-iterator) ≡ items_from 0 l.fn.requests.items)
    × (l.number + length (into_iter_items l.request-iterator) ≤ 4096)
