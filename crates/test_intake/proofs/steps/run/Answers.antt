use Rattle.test_intake.proofs.Clients.{new_are_clients}
use Rattle.test_intake.proofs.steps.run.Goals as goal

pub loop-step-init : goal.loop-step-init
loop-step-init g c = (new_are_clients _ _ _ c.in_ok-intake.ensures.clients.1, c.in_ok-intake.ensures.drawer.0)
