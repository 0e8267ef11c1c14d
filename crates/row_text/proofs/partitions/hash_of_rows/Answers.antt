use Rattle.std.proofs.Common.{◌≡◌, rules}
use Rattle.workspace.specs.Scan.{referred, rows_in_part}
use Rattle.row_text.proofs.PartitionLines.{its_digest}
use Rattle.row_text.proofs.partitions.hash_of_rows.Goals as goal

pub returns : goal.returns
returns g c =
    let read : referred c.push_rows.new.gathered.items ≡ rows_in_part c.args.catalogue.now c.args.table c.args.part (g.V.RowView.rows c.args.view.now) = rw (c.requires.tables, c.new-rows.ensures.items) at c.in_ok-push_rows.ensures in
    its_digest c.args.catalogue.now c.args.table c.args.part (g.V.RowView.rows c.args.view.now) c.push_rows.new.gathered.items _ (search rules) read
    (c.hash.ensures _ (rw c.as_slice.ensures.value at (c.in_ok-feed_rows.ensures _ c.new-feed.ensures)))
