use Rattle.intake.proofs.Moves.{parts_first, joins}
use Rattle.intake.proofs.intake.Intake.hand.Goals as goal

pub another-first-requires-clause-rule : goal.another-first-requires-clause-rule
another-first-requires-clause-rule g c = parts_first _ _

pub absorb-requires-clause-rule : goal.absorb-requires-clause-rule
absorb-requires-clause-rule g c = joins _ _ _ _
