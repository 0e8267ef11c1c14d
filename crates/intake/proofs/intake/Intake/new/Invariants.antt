use Rattle.std.proofs.Common.{◌≡◌, ◌≤◌, ◌+◌, ◌-◌, [], false, drop, vec_len, vec_capacity}
use Rattle.crossbeam_queue.specs.Passes.{IsPassOf}
use Rattle.crossbeam_queue.specs.Passes.{view as known}
use Rattle.intake.specs.Histories.{view, no_history}
use Rattle.intake.specs.Passes.{AreNewClients}
use Rattle.intake.proofs.intake.Intake.new.Given as goal

abbrev pub invariant-loop-client : goal.invariant-loop-client
invariant-loop-client g l = IsPassOf l.intake.queue l.whole × (known l.whole ≡ view (drop (l.client - 1) no_history) false []) × (vec_len l.passes + 1 ≡ l.client) × AreNewClients l.intake l.clients l.passes.items × (l.clients ≤ vec_capacity l.passes)
