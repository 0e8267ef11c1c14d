use Rattle.std.proofs.Common.{◌≡◌, false, take}
use Rattle.shelves.specs.Named.{is_listed}
use Rattle.row_store.proofs.named.set_row.Given as goal

abbrev pub invariant-loop-place : goal.invariant-loop-place
invariant-loop-place l = (l.rows.items ≡ l.fn.rows.items) × (is_listed (take l.place l.fn.rows.items) l.name ≡ false)
