use Rattle.std.proofs.Common.{◌∙◌}
use Rattle.intake.proofs.Steps.{appends_more}
use Rattle.intake.proofs.intake.Intake.draw_all.Goals as goal

pub returns-then-done-clause-drawn : goal.returns-then-done-clause-drawn
returns-then-done-clause-drawn g c = appends_more _ _ _ _ _ _ _ _ _ c.loop.invariant.2 c.reserve.ensures.items c.keep.ensures c.in_ok-items.ensures.drawn

pub loop-preserved : goal.loop-preserved
loop-preserved g c = (
  c.in_ok-items.ensures.pass.0,
  c.in_ok-items.ensures.pass.1 ∙ c.loop.invariant.1,
  appends_more _ _ _ _ _ _ _ _ _ c.loop.invariant.2 c.reserve.ensures.items c.keep.ensures c.in_ok-items.ensures.drawn,
)
