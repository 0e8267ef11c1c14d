use Rattle.std.proofs.Common.{◌≡◌, ◌++◌, length}
use Rattle.std.specs.Vec.Iter.{into_iter_items}
use Rattle.intake.specs.Passes.{client_of, sent_by, spare_of}
use Rattle.example_serving.proofs.clients.submit_all.Given as goal

-- what was submitted, and after it the calls that are left, is what was submitted before, and after it the log
abbrev pub invariant-calls : goal.invariant-calls
invariant-calls g l = record {
  intake : l.client.intake ≡ l.initial.client.intake;
  client : client_of l.client.pass ≡ client_of l.initial.client.pass;
  spare : spare_of l.client.pass ≡ spare_of l.initial.client.pass;
  sent : sent_by l.client.pass ++ into_iter_items l.client.log ≡ sent_by l.initial.client.pass ++ into_iter_items l.initial.client.log;
}

abbrev pub decreases-calls : goal.decreases-calls
decreases-calls g l = length (into_iter_items l.client.log)
