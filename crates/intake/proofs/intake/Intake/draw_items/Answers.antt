use Rattle.std.proofs.Common.{◌++◌, ◌∷◌, [], sym, ap, ◌∙◌, append_assoc, arith}
use Rattle.intake.proofs.Moves.{draws, finds}
use Rattle.intake.proofs.Steps.{drawer_stays, drawer_draws}
use Rattle.intake.specs.Passes.{drawn_by}
use Rattle.intake.proofs.intake.Intake.draw_items.Goals as goal

pub pop_as-requires-clause-rule : goal.pop_as-requires-clause-rule
pop_as-requires-clause-rule g c = (draws _ _ c.loop.invariant.0.draws, finds _ _ c.loop.invariant.0.draws)

pub returns-in-None-clause-pass : goal.returns-in-None-clause-pass
returns-in-None-clause-pass g c =
    let s = drawer_stays c.args.self.now c.loop.pass (record { pass = c.pop_as.new.pass }) c.in-None.ensures.queue c.in-None.ensures.rule.0 c.loop.invariant.0 in
    (s.0, s.1 ∙ c.loop.invariant.1)

pub loop-preserved : goal.loop-preserved
loop-preserved g c =
    let s = drawer_draws c.args.self.now c.loop.pass (record { pass = c.pop_as.new.pass }) c.in-Some.item c.in-Some.ensures.queue c.in-Some.ensures.rule.0 c.in-Some.ensures.rule.1 c.loop.invariant.0 in (
      s.0,
      s.1 ∙ c.loop.invariant.1,
      s.2 ∙ ap (λ l. l ++ c.in-Some.item ∷ []) c.loop.invariant.2 ∙ append_assoc (drawn_by c.args.pass.now) c.loop.items.items (c.in-Some.item ∷ []) ∙ ap (λ l. drawn_by c.args.pass.now ++ l) (sym c.push_reserved.ensures.items),
      omega arith,
    )
