use Rattle.std.proofs.Common.{◌≡◌, ◌++◌, ℕ, drop}
use Rattle.std.specs.Prelude.{map}
use Rattle.std.specs.Borrow.{Bor}
use Rattle.values.specs.Database.{RowOf}
use Rattle.workspace.proofs.scanning.keys_of.Given as goal

-- the keys so far and those of the rows left are all
abbrev pub invariant-loop-key : goal.invariant-loop-key
invariant-loop-key l = l.keys.items ++ map (λ (row : ℕ × Bor RowOf). row.0) (drop l.key-index l.rows) ≡ map (λ (row : ℕ × Bor RowOf). row.0) l.rows
