use Rattle.std.proofs.Common.{◌++◌, OnOk, ap, subst, ◌∙◌}
use Rattle.workspace.specs.Scan.{referred}
use Rattle.row_text.specs.Feeding.{IsFed}
use Rattle.row_text.proofs.Fed.{lines_are}
use Rattle.row_text.proofs.rows_in_order.feed_table.Goals as goal

pub returns : goal.returns
returns g c = λ all h.
    subst (λ lines. OnOk c.feed_rows.result (IsFed c.feed_rows.new.feed (all ++ lines)))
    (lines_are c.args.catalogue.now c.args.table (g.V.RowView.rows c.args.view.now) c.as_slice.result.now (ap referred c.as_slice.ensures.value ∙ c.in_ok-rows.ensures))
    (c.feed_rows.ensures all h)
