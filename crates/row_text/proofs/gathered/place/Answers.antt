use Rattle.std.proofs.lemmas.List.Sorted.{IsPermutation-trans}
use Rattle.row_text.proofs.gathered.place.Goals as goal
use Rattle.row_text.proofs.gathered.place.Goals.{then-home-rows, else-home-rows}

pub loop-preserved : goal.loop-preserved
loop-preserved c =
    elim c.if-home-rows.branch [
      | then-home-rows w ↦ rw w.rows-is c.loop.invariant
      | else-home-rows w ↦ rw w.rows-is (IsPermutation-trans _ _ _ c.loop.invariant w.swap.ensures.permutation)
    ]
