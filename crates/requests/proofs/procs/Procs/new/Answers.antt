use Rattle.std.specs.List.{IsDistinct}
use Rattle.requests.proofs.procs.Procs.new.Goals as goal

pub invariant_of-result : goal.invariant_of-result
unfolding IsDistinct
invariant_of-result c = rw c.new.ensures.empty (record { keyed = tt; procs = record { over = tt; names = tt; distinct = tt } })
