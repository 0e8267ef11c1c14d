use Rattle.std.proofs.Common.{◌≡◌}
use Rattle.test_execution.proofs.plain_comparison.plain_batches.Given as goal

-- the store keeps its tables, and nothing is lent
abbrev pub invariant-loop-number : goal.invariant-loop-number
invariant-loop-number l = (l.store.tables ≡ l.fn.store.tables) × (l.store.lent ≡ l.fn.store.lent)
