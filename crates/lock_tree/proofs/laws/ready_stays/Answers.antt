use Rattle.lock_tree.proofs.Staying.{ready_stays}
use Rattle.lock_tree.proofs.laws.ready_stays.Goals as goal

pub returns : goal.returns
returns c = ready_stays
