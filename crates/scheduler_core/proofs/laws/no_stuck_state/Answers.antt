use Rattle.scheduler_core.proofs.NextSteps.{never_stuck}
use Rattle.scheduler_core.proofs.laws.no_stuck_state.Goals as goal

pub returns : goal.returns
returns c = never_stuck c.first_ready.ensures
