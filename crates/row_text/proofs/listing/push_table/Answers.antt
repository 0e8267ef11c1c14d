use Rattle.std.proofs.Common.{◌≡◌, ◌++◌, OnOk, ap, subst, ◌∙◌}
use Rattle.workspace.specs.Scan.{referred}
use Rattle.row_text.proofs.Fed.{lines_are}
use Rattle.row_text.proofs.listing.push_table.Goals as goal

pub returns : goal.returns
returns g c =
    subst (λ lines. OnOk c.push_each.result (c.push_each.new.text.items ≡ c.args.text.now.items ++ lines))
    (lines_are c.args.catalogue.now c.args.table (g.V.RowView.rows c.args.view.now) c.as_slice.result.now (ap referred c.as_slice.ensures.value ∙ c.in_ok-rows.ensures))
    c.push_each.ensures
