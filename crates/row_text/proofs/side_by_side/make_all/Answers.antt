use Rattle.row_text.proofs.SideBySide.{same_partitions}
use Rattle.row_text.proofs.side_by_side.make_all.Goals as goal

pub returns-clause-partitions : goal.returns-clause-partitions
returns-clause-partitions g c = same_partitions c.args.hashings.now c.for_each_mut.new.s c.for_each_mut.auto.s
    (λ i d h. let p = (c.for_each_mut.ensures i d h).1 in rw (p.argument_is, p.left) at p.call.0)
