use Rattle.lock_tree.proofs.Apart.{ready_transactions_apart}
use Rattle.lock_tree.proofs.laws.ready_apart.Goals as goal

pub returns : goal.returns
returns c = ready_transactions_apart
