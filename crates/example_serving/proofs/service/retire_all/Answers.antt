use Rattle.std.proofs.Common.{◌≡◌, ◌∙◌, ◌∷◌, List, length, sym, subst, arith, rules}
use Rattle.std.proofs.lemmas.List.{nil_from_length}
use Rattle.std.specs.List.{AllByRecursion}
use Rattle.std.specs.Vec.Iter.{into_iter_items}
use Rattle.intake.specs.Histories.{HasAll}
use Rattle.intake.specs.Passes.{histories_of, held_by}
use Rattle.example_serving.specs.declared.client.Client.{Client}
use Rattle.example_serving.specs.Steps.{histories_at}
use Rattle.example_serving.proofs.Submitted.{has_both, has_each}
use Rattle.example_serving.proofs.service.retire_all.Goals as goal

pub loop-client-preserved : goal.loop-client-preserved
loop-client-preserved c =
    let turn : into_iter_items c.loop-client.client-iterator ≡ c.in-Some.client ∷ into_iter_items c.next.new.self = search rules in
    let inv = c.loop-client.invariant in
    let left = subst (AllByRecursion (λ (x : Client). x.intake.now ≡ c.args.intake.now)) turn inv.left in
    record {
      pass = c.retire.ensures.drawer;
      drawn = c.retire.ensures.drawn ∙ inv.drawn;
      left = left.1;
      held = λ items held rest.
          let parts = has_each items (histories_of c.in-Some.client.pass) (held_by c.loop-client.pass) (subst (HasAll items) c.retire.ensures.held held) in
          inv.held items parts.1 (subst (λ (cs : List Client). HasAll items (histories_at cs)) (sym turn) (has_both items (histories_of c.in-Some.client.pass) (histories_at (into_iter_items c.next.new.self)) parts.0 rest));
    }

pub returns-clause-held : goal.returns-clause-held
returns-clause-held c =
    let count : length (into_iter_items c.loop-client.client-iterator) ≡ 0 = omega (arith, c.in-None.ensures.steps.0) in
    let none = nil_from_length (into_iter_items c.loop-client.client-iterator) count in
    λ items held. c.loop-client.invariant.held items held (subst (λ (cs : List Client). HasAll items (histories_at cs)) (sym none) tt)
