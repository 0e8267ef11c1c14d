use Rattle.lock_tree.proofs.Apart.{first_is_ready}
use Rattle.lock_tree.proofs.laws.first_ready.Goals as goal

pub returns : goal.returns
returns c = first_is_ready
