use Rattle.std.proofs.Common.{[]}
use Rattle.row_text.specs.Partitions.{partition_lines}
use Rattle.row_text.proofs.PartitionLines.{one_more}
use Rattle.row_text.proofs.partitions.partition_text_digest.Goals as goal

pub loop-place-preserved : goal.loop-place-preserved
loop-place-preserved g c =
    (one_more (partition_lines c.args.catalogue.now (g.V.RowView.rows c.args.view.now)) c.loop-place.place [] _ _ c.loop-place.invariant.0 (rw c.new.ensures at c.in_ok-push_partitions.ensures.text), c.push_partitions.ensures.kept)
