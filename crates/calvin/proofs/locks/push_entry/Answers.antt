use Rattle.calvin.proofs.locks.push_entry.Goals as goal

pub returns : goal.returns
returns c = (c.in_ok-plan.plan, c.in_ok-plan.ensures, c.in_ok-push_plan.ensures)
