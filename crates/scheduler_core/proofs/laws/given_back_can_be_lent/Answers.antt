use Rattle.scheduler_core.proofs.GivenBack.{given_back_can_be_lent}
use Rattle.scheduler_core.proofs.laws.given_back_can_be_lent.Goals as goal

pub returns : goal.returns
returns c = given_back_can_be_lent (λ first log. (c.admitted_and_unsettled_wait.ensures first log).stays_ready)
