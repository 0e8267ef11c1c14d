use Rattle.coarsen.proofs.ThePlan.{plan_one}
use Rattle.coarsen.proofs.laws.plan_is_one.Goals as goal

pub returns : goal.returns
returns c = plan_one
