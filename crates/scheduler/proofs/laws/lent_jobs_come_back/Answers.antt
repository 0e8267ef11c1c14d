use Rattle.scheduler.proofs.Comings.{comes_back}
use Rattle.scheduler.proofs.laws.lent_jobs_come_back.Goals as goal

pub returns : goal.returns
returns c = comes_back
