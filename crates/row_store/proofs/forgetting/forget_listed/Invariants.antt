use Rattle.std.proofs.Common.{take}
use Rattle.row_store.specs.Forgetting.{has_listed}
use Rattle.row_store.specs.Forgetting.{AreForgotten}
use Rattle.row_store.proofs.forgetting.forget_listed.Given as goal

abbrev pub invariant-loop-entry : goal.invariant-loop-entry
invariant-loop-entry l = AreForgotten (has_listed l.catalogue (take l.entry-index l.rows)) l.fn.kept l.kept
