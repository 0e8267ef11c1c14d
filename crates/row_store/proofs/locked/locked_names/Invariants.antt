use Rattle.std.proofs.Common.{◌≡◌, take}
use Rattle.values.specs.declared.name.RowName.{RowName}
use Rattle.shelves.specs.Places.{is_named}
use Rattle.row_store.specs.Locked.{locks_itself}
use Rattle.row_store.proofs.locked.locked_names.Given as goal

abbrev pub invariant-loop-resource : goal.invariant-loop-resource
invariant-loop-resource l = (q : RowName) → is_named l.names.items q ≡ locks_itself (take l.resource-index l.requests) l.right q
