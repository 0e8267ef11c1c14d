use Rattle.intake.specs.Passes.{IsClientOf}
use Rattle.test_intake.proofs.threads.submit_all.Given as goal

-- the pass is of the intake
abbrev pub invariant-loop : goal.invariant-loop
invariant-loop g l = IsClientOf l.intake l.pass
