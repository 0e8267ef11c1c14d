use Rattle.std.proofs.Common.{◌&&◌, if◌then◌else◌, Some, ap, ◌∙◌}
use Rattle.values.specs.Database.{RowOf}
use Rattle.footprint.specs.declared.resource.Resource.{Resource}
use Rattle.shelves.specs.Places.{seen_at, full, shared_row, is_same_name, is_same_shelf}
use Rattle.shelves.specs.Shelving.{shelf_of}
use Rattle.shelves.proofs.Rows.{row_put}
use Rattle.shelves.proofs.filling.put_row.Goals as goal

pub returns-clause-rows : goal.returns-clause-rows
returns-clause-rows c = row_put c.args.catalogue.now c.args.shelves.now c.add_row.new.shelves c.args.name c.args.row (λ d q.
    c.in_ok-add_row.ensures.seen d q
    ∙ ap (λ (s : Resource). if is_same_shelf s d && is_same_name c.args.name q then full (shared_row (Some c.in_ok-row.row)) else seen_at c.args.shelves.now d q) c.shelf_of.ensures
    ∙ ap (λ (r : RowOf). if is_same_shelf (shelf_of c.args.catalogue.now c.args.name) d && is_same_name c.args.name q then full (Some r) else seen_at c.args.shelves.now d q) c.in_ok-row.ensures.ok)
