use Rattle.scheduler_core.proofs.OnePlay.{plays_alike}
use Rattle.scheduler_core.proofs.laws.answers_are_determined.Goals as goal

pub returns : goal.returns
returns c = plays_alike
