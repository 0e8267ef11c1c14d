use Rattle.std.proofs.Common.{take}
use Rattle.row_store.specs.Forgetting.{has_name}
use Rattle.row_store.specs.Forgetting.{AreForgotten}
use Rattle.row_store.proofs.forgetting.forget_names.Given as goal

abbrev pub invariant-loop-name : goal.invariant-loop-name
invariant-loop-name l = AreForgotten (has_name l.catalogue (take l.name-index l.names)) l.fn.kept l.kept
