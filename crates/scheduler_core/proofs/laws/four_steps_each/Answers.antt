use Rattle.scheduler_core.proofs.Progress.{four_steps_each}
use Rattle.scheduler_core.proofs.laws.four_steps_each.Goals as goal

pub returns : goal.returns
returns c = four_steps_each
