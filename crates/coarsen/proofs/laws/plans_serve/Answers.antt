use Rattle.coarsen.proofs.ThePlan.{plans_good}
use Rattle.coarsen.proofs.laws.plans_serve.Goals as goal

pub returns : goal.returns
returns c = plans_good
