use Rattle.scheduler_core.proofs.MachineSteps.{follows_steps}
use Rattle.scheduler_core.proofs.laws.machine_follows_steps.Goals as goal

pub returns : goal.returns
returns c = follows_steps
