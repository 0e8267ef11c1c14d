use Rattle.lock_tree.proofs.Fronts.{grants_longest_front}
use Rattle.lock_tree.proofs.laws.granted_is_longest_front.Goals as goal

pub returns : goal.returns
returns c = grants_longest_front
