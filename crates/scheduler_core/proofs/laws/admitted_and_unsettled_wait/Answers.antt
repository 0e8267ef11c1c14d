use Rattle.scheduler_core.proofs.Follows.{all_follow}
use Rattle.scheduler_core.proofs.laws.admitted_and_unsettled_wait.Goals as goal

pub returns : goal.returns
returns c = all_follow c.ready_stays.ensures
