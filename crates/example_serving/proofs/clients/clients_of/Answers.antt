use Rattle.std.proofs.Common.{◌≡◌, ◌∙◌, ◌∷◌, ◌++◌, [], length, vec_len, drop, refl, sym, ap, subst, append_assoc, arith, rules}
use Rattle.std.specs.List.{AllByRecursion}
use Rattle.std.specs.Vec.Iter.{into_iter_items}
use Rattle.intake.specs.Histories.{spare_for}
use Rattle.intake.specs.Passes.{sent_by}
use Rattle.example_serving.specs.Logs.{IsShortLog}
use Rattle.example_serving.specs.Clients.{AreAtTheirLogs}
use Rattle.example_serving.proofs.Submitted.{next_client, snoc_length, at_more}
use Rattle.example_serving.proofs.clients.clients_of.Goals as goal

pub invariant_of-push_reserved : goal.invariant_of-push_reserved
invariant_of-push_reserved c =
    let turn : into_iter_items c.loop-pass.pass-iterator ≡ c.in-Some.pass ∷ into_iter_items c.next.new.self = search rules in
    let new = next_client c.args.intake.now _ (length c.loop-pass.clients.items) c.args.passes.items _ c.in-Some.pass c.requires.passes.1 (c.loop-pass.invariant.passes ∙ turn) in
    let short = subst (AllByRecursion IsShortLog) c.in-Some-next.ensures.items c.loop-pass.invariant.short in
    let none : length (sent_by c.in-Some.pass) ≡ 0 = ap length new.0.sent in
    let left : into_iter_items c.into_iter.result ≡ c.in-Some-next.log.items = search rules in
    let all : length (into_iter_items c.into_iter.result) ≡ length c.in-Some-next.log.items = ap length left in
    record { own = new.0.pass; room = omega (arith, none, all, short.0) }

pub loop-pass-preserved : goal.loop-pass-preserved
loop-pass-preserved c =
    let turn : into_iter_items c.loop-pass.pass-iterator ≡ c.in-Some.pass ∷ into_iter_items c.next.new.self = search rules in
    let next = c.in-Some-next.ensures.items in
    let inv = c.loop-pass.invariant in
    let new = next_client c.args.intake.now _ (length c.loop-pass.clients.items) c.args.passes.items _ c.in-Some.pass c.requires.passes.1 (inv.passes ∙ turn) in
    let long : length c.push_reserved.new.self.items ≡ _ = ap length c.push_reserved.ensures.items ∙ snoc_length c.loop-pass.clients.items _ in
    let turns = ap length turn in
    let nexts = ap length next in
    record {
      front = inv.front ++ c.in-Some-next.log ∷ [];
      logs = inv.logs ∙ ap (λ l. inv.front ++ l) next ∙ sym (append_assoc inv.front (c.in-Some-next.log ∷ []) (into_iter_items c.next-in-loop-pass.new.self));
      clients = subst (λ cs. AreAtTheirLogs c.args.intake.now (vec_len c.args.logs) 1 cs (inv.front ++ c.in-Some-next.log ∷ [])) (sym c.push_reserved.ensures.items)
          (at_more c.args.intake.now (vec_len c.args.logs) 1 c.loop-pass.clients.items inv.front _ c.in-Some-next.log inv.clients (record { intake_is = refl; client_is = new.0.client ∙ omega arith; sent = new.0.sent; spare = new.0.spare ∙ ap (λ k. spare_for (vec_len c.args.logs) k) (omega arith); log_is = search rules }));
      passes = ap (λ n. drop n c.args.passes.items) long ∙ new.1;
      same = omega (arith, turns, nexts, inv.same);
      room = omega (arith, long, nexts, inv.room, c.push_reserved.ensures.capacity);
      short = (subst (AllByRecursion IsShortLog) next inv.short).1;
    }
