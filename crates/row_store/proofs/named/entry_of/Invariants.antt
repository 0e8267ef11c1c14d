use Rattle.std.proofs.Common.{◌≡◌, false, take}
use Rattle.shelves.specs.Named.{is_listed}
use Rattle.row_store.proofs.named.entry_of.Given as goal

abbrev pub invariant-loop-entry : goal.invariant-loop-entry
invariant-loop-entry l = is_listed (take l.entry-index l.rows) l.name ≡ false
