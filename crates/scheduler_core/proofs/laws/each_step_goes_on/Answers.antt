use Rattle.scheduler_core.proofs.GoingOn.{each_goes_on}
use Rattle.scheduler_core.proofs.laws.each_step_goes_on.Goals as goal

pub returns : goal.returns
returns c = each_goes_on
