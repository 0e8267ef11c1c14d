use Rattle.coarsen.proofs.PlanLaws.{clash_either_way}
use Rattle.coarsen.proofs.laws.clashes_are_either_way.Goals as goal

pub returns : goal.returns
returns c = clash_either_way
