use Rattle.intake.specs.Passes.{IsDrawerOf}
use Rattle.bench_queues.proofs.handing.draw_all.Given as goal

abbrev pub invariant-loop : goal.invariant-loop
invariant-loop g l = IsDrawerOf l.intake l.pass
