use Rattle.intake.proofs.Moves.{submits, refuses}
use Rattle.intake.proofs.intake.Intake.submit.Goals as goal

pub push_as-requires-clause-rule : goal.push_as-requires-clause-rule
push_as-requires-clause-rule g c = (submits _ _ _ _ _ _ _ _ _ _ c.requires.pass.view c.requires.pass.count, refuses _ _)
