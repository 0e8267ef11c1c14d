use Rattle.std.proofs.Common.{◌≤◌, length}
use Rattle.intake.specs.Passes.{IsClientOf, sent_by}
use Rattle.bench_queues.proofs.handing.submit_all.Given as goal

abbrev pub invariant-loop : goal.invariant-loop
invariant-loop g l = IsClientOf l.intake l.pass × (length (sent_by l.pass) ≤ l.each)
