use Rattle.intake.specs.Passes.{AreClientsOf, IsDrawerOf}
use Rattle.test_intake.proofs.steps.run.Given as goal

-- all passes are of the intake
abbrev pub invariant-loop-step : goal.invariant-loop-step
invariant-loop-step g l = AreClientsOf l.intake l.passes.items × IsDrawerOf l.intake l.drawer
