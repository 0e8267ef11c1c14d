use denote.Param.Send.{sendable}
use Rattle.std.proofs.Crossing.{crosses}
use Rattle.row_store.proofs.Shared.{store_sync}
use Rattle.row_store.proofs.store.RowStore.make_digests.Goals as goal

pub keep_digests-requires-sync-V : goal.keep_digests-requires-sync-V
keep_digests-requires-sync-V g c κs within = search (sendable, crosses, store_sync) depth 12
