use Rattle.std.proofs.Common.{◌≡◌}
use Rattle.std.specs.List.{AllByRecursion}
use Rattle.example_embedding.proofs.calls.batch_of.Given as goal

abbrev pub invariant-loop-call : goal.invariant-loop-call
invariant-loop-call l = AllByRecursion (λ r. r.proc.tables ≡ l.procs.tables) l.requests.items
