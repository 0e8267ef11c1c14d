use Rattle.std.proofs.Common.{arith}
use Rattle.std.proofs.lemmas.Int.{to_z-of_z}
use Rattle.meaning.specs.Runs.{and_then}
use Rattle.interp.proofs.Left.{next_left, fewer_left}
use Rattle.interp.proofs.block.+run.Goals as goal

pub for_each_number-returns-in_err-turn-clause-gives : goal.for_each_number-returns-in_err-turn-clause-gives
unfolding and_then
for_each_number-returns-in_err-turn-clause-gives g t c =
    let h = c.loop-next.invariant.gives in
    let k = c.in_err-turn.ensures.gives in
    grind (arith, to_z-of_z, h, k)

pub for_each_number-loop-next-smaller : goal.for_each_number-loop-next-smaller
for_each_number-loop-next-smaller g t c = grind (arith, to_z-of_z, fewer_left)

pub for_each_number-loop-next-preserved : goal.for_each_number-loop-next-preserved
unfolding and_then
for_each_number-loop-next-preserved g t c = grind (arith, to_z-of_z, next_left)
