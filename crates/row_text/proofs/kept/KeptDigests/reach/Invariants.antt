use Rattle.std.proofs.Common.{◌≡◌, ◌+◌, ◌-◌, ℕ, length}
use Rattle.row_text.specs.Kept.{kept_at}
use Rattle.row_text.proofs.kept.KeptDigests.reach.Given as goal

abbrev pub invariant-loop-table : goal.invariant-loop-table
invariant-loop-table l = (t p : ℕ) → kept_at l.self t p ≡ kept_at l.initial.self t p

abbrev pub decreases-loop-table : goal.decreases-loop-table
decreases-loop-table l = (l.table + 1) - length l.self.tables.items
