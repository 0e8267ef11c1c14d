use Rattle.std.proofs.Common.{take}
use Rattle.shelves.specs.Places.{among}
use Rattle.row_store.specs.Forgetting.{AreForgotten}
use Rattle.row_store.proofs.forgetting.forget_shelves.Given as goal

abbrev pub invariant-loop-shelf : goal.invariant-loop-shelf
invariant-loop-shelf l = AreForgotten (among (take l.shelf-index l.shelves)) l.fn.kept l.kept
