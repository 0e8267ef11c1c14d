use Rattle.coarsen.proofs.TreeLaws.{holds_descendants}
use Rattle.coarsen.proofs.laws.subtrees_are_of_ancestors.Goals as goal

pub returns : goal.returns
returns c = holds_descendants
