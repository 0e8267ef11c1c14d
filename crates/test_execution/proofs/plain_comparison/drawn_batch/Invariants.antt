use Rattle.std.proofs.Common.{◌≡◌}
use Rattle.std.specs.List.{AllByRecursion}
use Rattle.test_execution.proofs.plain_comparison.drawn_batch.Given as goal

abbrev pub invariant-loop : goal.invariant-loop
invariant-loop l = AllByRecursion (λ r. r.proc.tables ≡ l.procs.tables) l.requests.items
