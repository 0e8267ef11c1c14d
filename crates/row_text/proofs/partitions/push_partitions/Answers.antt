use Rattle.row_text.specs.Partitions.{line_of_partition}
use Rattle.row_text.proofs.PartitionLines.{one_more}
use Rattle.row_text.proofs.partitions.push_partitions.Goals as goal

pub loop-part-preserved : goal.loop-part-preserved
loop-part-preserved g c =
    (one_more (line_of_partition c.args.catalogue.now c.args.table (g.V.RowView.rows c.args.view.now)) c.loop-part.part _ _ _ c.loop-part.invariant.0 c.in_ok-push_partition.ensures.text, c.push_partition.ensures.kept)
