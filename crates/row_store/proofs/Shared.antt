-- Threads may share a store.
use denote.Param.Send.{IsSync, sendable}
use Rattle.std.proofs.Crossing.{crosses}
use Rattle.std.proofs.MapsCrossing as maps
use Rattle.catalogue.proofs.catalogue.Catalogue.TheSendSync as catalogue
use Rattle.values.proofs.name.TableNo.TheSendSync as table_no
use Rattle.footprint.proofs.resource.Resource.TheSendSync as resource
use Rattle.shelves.proofs.contents.Contents.TheSendSync as contents
use Rattle.row_store.specs.contracts.store.RowStore as store

pub store_sync : IsSync store.the_row
store_sync = search (sendable, crosses, maps.crosses, catalogue.the_sync, table_no.the_sync, resource.the_sync, contents.the_field_sync) depth 30
