use Rattle.std.proofs.Common.{arith, sym}
use Rattle.row_store.proofs.locked.locked_shelves.Goals as goal

pub add_shelves_under-requires : goal.add_shelves_under-requires
add_shelves_under-requires c =
    c.requires c.loop-resource-item.result (c.loop-resource.resource-index, omega arith, sym c.loop-resource-item.is)
