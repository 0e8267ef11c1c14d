use Rattle.std.proofs.Common.{◌≡◌}
use Rattle.intake.specs.Passes.{IsClientOf, client_of, sent_by, spare_of}
use Rattle.example_serving.proofs.clients.submit.Given as goal

-- nothing was submitted so far
abbrev pub invariant-loop : goal.invariant-loop
invariant-loop g l = record {
  pass : IsClientOf l.intake l.pass;
  client : client_of l.pass ≡ client_of l.initial.pass;
  spare : spare_of l.pass ≡ spare_of l.initial.pass;
  sent : sent_by l.pass ≡ sent_by l.initial.pass;
  call : l.call ≡ l.fn.call;
}
