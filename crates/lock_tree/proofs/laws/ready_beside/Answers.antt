use Rattle.lock_tree.proofs.Beside.{one_more_is_ready}
use Rattle.lock_tree.proofs.laws.ready_beside.Goals as goal

pub returns : goal.returns
returns c = one_more_is_ready
