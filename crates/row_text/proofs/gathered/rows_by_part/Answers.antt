use Rattle.row_text.proofs.Gathering.{more_gathered, none_before}
use Rattle.row_text.proofs.gathered.rows_by_part.Goals as goal

pub loop-part-init : goal.loop-part-init
loop-part-init g c = none_before c.args.catalogue.now c.args.table (g.V.RowView.rows c.args.view.now) c.new-gathered.result.items c.new-gathered.ensures.items

pub loop-part-preserved : goal.loop-part-preserved
loop-part-preserved g c =
    more_gathered c.args.catalogue.now c.args.table c.loop-part.part (g.V.RowView.rows c.args.view.now) c.loop-part.gathered.items c.push_rows.new.gathered.items c.loop-part.invariant
    (rw c.requires.tables at c.in_ok-push_rows.ensures)
