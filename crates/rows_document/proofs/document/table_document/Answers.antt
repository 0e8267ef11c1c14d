use Rattle.std.proofs.Common.{◌≡◌, [], IfOk, subst}
use Rattle.rows_document.proofs.Listed.{table_listed}
use Rattle.rows_document.proofs.document.table_document.Goals as goal

pub returns : goal.returns
returns g c = subst (λ text. IfOk c.end.result (λ t. t.items ≡ text))
    (table_listed c.args.catalogue.now c.args.table (g.V.RowView.rows c.args.view.now) c.push_table.new.listing (c.in_ok-push_table.ensures.listed [] (c.in_ok-listing.ensures c.args.catalogue.now)))
    c.end.ensures
