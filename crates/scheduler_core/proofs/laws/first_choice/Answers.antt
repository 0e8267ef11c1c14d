use Rattle.scheduler_core.proofs.Listed.{first_chosen}
use Rattle.scheduler_core.proofs.laws.first_choice.Goals as goal

pub returns : goal.returns
returns c = first_chosen c.first_ready.ensures
