use Rattle.intake.proofs.Alone.{held_alone, held_drawing}
use Rattle.intake.proofs.laws.refused_client_knows_the_queue.Goals as goal

pub returns-clause-alone : goal.returns-clause-alone
returns-clause-alone g c = held_alone

pub returns-clause-drawing : goal.returns-clause-drawing
returns-clause-drawing g c = held_drawing
