use Rattle.scheduler_core.proofs.Listed.{all_listed}
use Rattle.scheduler_core.proofs.laws.enabled_events_are_listed.Goals as goal

pub returns : goal.returns
returns c = all_listed c.first_ready.ensures
