use Rattle.coarsen.proofs.PlanLaws.{plans_exact}
use Rattle.coarsen.proofs.laws.plans_are_exact.Goals as goal

pub returns : goal.returns
returns c = plans_exact
