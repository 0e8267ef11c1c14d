use Rattle.row_text.specs.Kept.{IsKept}
use Rattle.row_text.specs.SideBySide.{partition_of}
use Rattle.row_text.proofs.SideBySide.{one_more}
use Rattle.row_text.proofs.side_by_side.keep_all.Goals as goal

pub loop-hashing-preserved : goal.loop-hashing-preserved
loop-hashing-preserved g c = (
  c.keep_made.ensures.kept,
  one_more (λ x. IsKept c.args.catalogue.now (g.V.RowView.rows c.args.view.now) c.loop-hashing.kept (partition_of x))
      (λ x. IsKept c.args.catalogue.now (g.V.RowView.rows c.args.view.now) c.keep_made.new.kept (partition_of x))
      c.args.hashings.now c.loop-hashing.hashing-index c.hashing-item.result c.hashing-item.is c.loop-hashing-test.true
      (λ x. c.keep_made.ensures.still (partition_of x)) c.loop-hashing.invariant.1 c.in_ok-keep_made.ensures.made,
)
