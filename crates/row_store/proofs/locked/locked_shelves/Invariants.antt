use Rattle.std.proofs.Common.{◌≡◌, take}
use Rattle.values.specs.declared.name.RowName.{RowName}
use Rattle.shelves.specs.Shelving.{shelf_of}
use Rattle.shelves.specs.Places.{among}
use Rattle.row_store.specs.Locked.{locks_shelf}
use Rattle.row_store.proofs.locked.locked_shelves.Given as goal

abbrev pub invariant-loop-resource : goal.invariant-loop-resource
invariant-loop-resource l = (q : RowName) → among l.shelves.items (shelf_of l.catalogue q) ≡ locks_shelf (take l.resource-index l.requests) l.right (shelf_of l.catalogue q)
