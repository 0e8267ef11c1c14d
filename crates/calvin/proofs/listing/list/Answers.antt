use Rattle.std.proofs.Common.{refl}
use Rattle.calvin.proofs.ListedRows.{list_unmade}
use Rattle.calvin.proofs.listing.list.Goals as goal

pub list_on-status-requires-clause-fresh : goal.list_on-status-requires-clause-fresh
list_on-status-requires-clause-fresh g c = λ κs bounds. rw c.in-Ok.ensures.made (refl, refl)

pub returns-in-Err : goal.returns-in-Err
returns-in-Err g c = λ table at. list_unmade g.S.Source.left g.S.Source.failed c.args.options.now.alone c.args.printing.document c.args.options.now.feed table c.args.document c.args.source.now c.in-Err.fault _ _ c.in-Err.ensures.refused c.refused.ensures

pub returns : goal.returns
returns g c = λ table at. c.list_on-status.ensures c.args.document c.args.options.now.settings table c.in-Ok.ensures.made refl at
