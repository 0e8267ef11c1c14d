use Rattle.std.proofs.Common.{sym, ap, ◌∙◌}
use Rattle.std.specs.FinMap as finite
use Rattle.values.specs.declared.name.RowName.{RowName}
use Rattle.footprint.specs.declared.resource.Resource.{Resource}
use Rattle.row_store.specs.Stock.{Stock}
use Rattle.shelves.specs.Places.{seen_at}
use Rattle.shelves.specs.Shelving.{shelf_of}
use Rattle.shelves.proofs.Rows.{get-rows_of}
use Rattle.row_store.proofs.Shown.{store_here}
use Rattle.row_store.proofs.view.RowStoreRowView.row.Goals as goal

pub returns : goal.returns
returns c =
    let name : RowName = record { table = c.args.table; key = c.args.key } in
    c.row_at.ensures
    ∙ ap (λ (d : Resource). (seen_at c.self.inside.shelves d c.new-name.result).row) c.shelf_of.ensures
    ∙ ap (λ (q : RowName). (seen_at c.self.inside.shelves (shelf_of c.self.inside.catalogue q) q).row) c.new-name.ensures
    ∙ store_here c.self.inside.catalogue c.self.inside.shelves c.self.inside.lent c.args.self.now c.self.view_is c.self.invariant.0 name c.requires
    ∙ sym (get-rows_of c.self.inside.catalogue c.self.inside.shelves name)
    ∙ ap (λ (s : Stock). finite.get s.rows name) c.self.view_is
