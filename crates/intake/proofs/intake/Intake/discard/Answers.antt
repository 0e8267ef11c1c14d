use Rattle.std.proofs.Common.{◌++◌, ◌∷◌, [], ap, ◌∙◌, append_assoc}
use Rattle.intake.proofs.Moves.{draws, finds}
use Rattle.intake.proofs.Steps.{drawer_stays, drawer_draws}
use Rattle.intake.specs.Passes.{drawn_by}
use Rattle.intake.proofs.intake.Intake.discard.Goals as goal

pub pop_as-requires-clause-rule : goal.pop_as-requires-clause-rule
pop_as-requires-clause-rule g c = (draws _ _ c.loop.invariant.pass.draws, finds _ _ c.loop.invariant.pass.draws)

pub returns-in_default-clause-pass : goal.returns-in_default-clause-pass
returns-in_default-clause-pass g c =
    let s = drawer_stays c.args.self.now c.loop.pass (record { pass = c.pop_as.new.pass }) c.in_default.ensures.queue c.in_default.ensures.rule.0 c.loop.invariant.pass in
    (s.0, s.1 ∙ c.loop.invariant.held)

pub loop-preserved : goal.loop-preserved
loop-preserved g c =
    let s = drawer_draws c.args.self.now c.loop.pass (record { pass = c.pop_as.new.pass }) c.in-Some-pop_as._item c.in-Some-pop_as.ensures.queue c.in-Some-pop_as.ensures.rule.0 c.in-Some-pop_as.ensures.rule.1 c.loop.invariant.pass in
    let more = c.loop.invariant.drawn in
    record {
      pass = s.0;
      held = s.1 ∙ c.loop.invariant.held;
      drawn = (more.0 ++ c.in-Some-pop_as._item ∷ [], s.2 ∙ ap (λ l. l ++ c.in-Some-pop_as._item ∷ []) more.1 ∙ append_assoc (drawn_by c.args.pass.now) more.0 (c.in-Some-pop_as._item ∷ []));
    }
