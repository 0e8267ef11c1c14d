use Rattle.std.proofs.Common.{◌<◌, ap, subst}
use Rattle.std.specs.Option.{unwrap_or}
use Rattle.row_text.specs.Kept.{IsPartitionOf}
use Rattle.row_store.proofs.Unkept.{one_more}
use Rattle.row_store.proofs.side_by_side.push_unkept.Goals as goal
use Rattle.row_store.proofs.side_by_side.push_unkept.Goals.{then-rows-gt0+then-not-has+in_ok-push, else-rows-gt0}

pub loop-part-preserved : goal.loop-part-preserved
loop-part-preserved c =
    elim c.if-rows-gt0.branch [
      | then-rows-gt0+then-not-has+in_ok-push w ↦ rw w.unkept-is (one_more (IsPartitionOf c.args.catalogue.now)
          c.loop-part.unkept.parts.items _ (c.args.table, c.loop-part.part) w.in_ok-push.ensures c.loop-part.invariant
          (subst (λ n. c.loop-part.part < n) (ap (λ o. unwrap_or o 0) c.partitions-part-end.ensures.count) c.loop-part-test.true))
      | else-rows-gt0 w ↦ rw w.unkept-is c.loop-part.invariant
    ]
