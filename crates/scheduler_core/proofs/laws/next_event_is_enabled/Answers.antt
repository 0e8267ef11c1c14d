use Rattle.scheduler_core.proofs.NextSteps.{next_enabled}
use Rattle.scheduler_core.proofs.laws.next_event_is_enabled.Goals as goal

pub returns : goal.returns
returns c = next_enabled c.first_ready.ensures
