use Rattle.calvin.proofs.PlanTexts.{one_text}
use Rattle.calvin.proofs.laws.plans_have_one_text.Goals as goal

pub returns : goal.returns
returns c = one_text c.plans_are_exact.ensures
