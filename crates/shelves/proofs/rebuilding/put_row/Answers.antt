use Rattle.std.proofs.Common.{◌&&◌, if◌then◌else◌, ap, sym, ◌∙◌}
use Rattle.footprint.specs.declared.resource.Resource.{Resource}
use Rattle.shelves.specs.Places.{seen_at, full, shared_row, is_same_name, is_same_shelf}
use Rattle.shelves.proofs.RowsBack.{row_put_back}
use Rattle.shelves.proofs.rebuilding.put_row.Goals as goal

pub returns-in_ok-add_row-clause-seen : goal.returns-in_ok-add_row-clause-seen
returns-in_ok-add_row-clause-seen c =
    row_put_back c.args.catalogue.now c.args.shelves.now c.add_row.new.shelves c.args.name.now c.args.row (sym c.is_some.ensures ∙ c.if-is_some.true)
    (λ d q. c.in_ok-add_row.ensures.seen d q
    ∙ ap (λ (s : Resource). if is_same_shelf s d && is_same_name c.args.name.now q then full (shared_row c.args.row) else seen_at c.args.shelves.now d q) c.shelf_of.ensures)
