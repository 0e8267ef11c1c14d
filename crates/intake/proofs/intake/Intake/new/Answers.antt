use Rattle.std.proofs.Common.{◌≡◌, ◌-◌, [], false, refl, sym, ap, ◌∙◌, subst, drop, arith}
use Rattle.intake.proofs.Moves.{begins, parts_drawing, parts_first}
use Rattle.intake.proofs.Opening.{next_history, new_clients-push, splits_next, new_client, spare_none, spare_last}
use Rattle.intake.specs.declared.intake.Intake.{Intake}
use Rattle.intake.specs.declared.passes.ClientPass.{ClientPass}
use Rattle.intake.specs.Histories.{view, no_history}
use Rattle.intake.specs.Passes.{AreNewClients}
use Rattle.intake.proofs.intake.Intake.new.Goals as goal

pub ruled-requires-clause-rule : goal.ruled-requires-clause-rule
ruled-requires-clause-rule g c = begins

pub another-drawer-requires-clause-rule : goal.another-drawer-requires-clause-rule
another-drawer-requires-clause-rule g c = parts_drawing _ _

pub another-pass-requires-clause-rule : goal.another-pass-requires-clause-rule
another-pass-requires-clause-rule g c = parts_first _ _

pub loop-client-preserved : goal.loop-client-preserved
loop-client-preserved g c =
    let k = c.loop-client.client in
    let intake : Intake g.row.Q.Denot = record { queue = c.in_ok-queue.queue; alloc = c.args.alloc } in
    let made : ClientPass g.row.Q.Denot = record { pass = c.another-pass.result; client = k; sent = 0 } in
    let queue = c.another-pass.ensures.queue in
    let split = splits_next k _ _ _ (omega arith) (omega arith) c.loop-client.invariant.1 c.another-pass.ensures.rule.0 c.another-pass.ensures.rule.1 in (
      (queue.0.0 ∙ c.loop-client.invariant.0.0, queue.0.2 ∙ c.loop-client.invariant.0.1),
      split.0,
      omega arith,
      subst (AreNewClients intake c.args.clients) (sym c.push_reserved.ensures.items)
          (new_clients-push intake c.args.clients c.loop-client.passes.items made k (omega arith) c.loop-client.invariant.3 (new_client intake c.args.clients k made [] (spare_none c.args.clients k (omega arith)) refl refl queue.1 split.1)),
      omega arith,
    )

pub returns-clause-clients : goal.returns-clause-clients
returns-clause-clients g c =
    let k = c.args.clients in
    let intake : Intake g.row.Q.Denot = record { queue = c.in_ok-queue.queue; alloc = c.args.alloc } in
    let made : ClientPass g.row.Q.Denot = record { pass = c.loop-client.whole; client = k; sent = 0 } in
    let same : c.loop-client.client ≡ k = omega arith in
    let is = c.loop-client.invariant.1 ∙ ap (λ m. view (drop (m - 1) no_history) false []) same ∙ ap (λ hs. view hs false []) (next_history k c.requires.clients.0 c.requires.clients.1) in (
      omega arith,
      subst (AreNewClients intake c.args.clients) (sym c.push_reserved-2.ensures.items)
          (new_clients-push intake c.args.clients c.loop-client.passes.items made k (omega arith) c.loop-client.invariant.3 (new_client intake k k made _ (spare_last k) refl refl c.loop-client.invariant.0 is)),
    )
