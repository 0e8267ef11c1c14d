use Rattle.intake.proofs.Steps.{drawer_gives}
use Rattle.intake.proofs.intake.Intake.give_back.Goals as goal

pub returns-clause-drawer : goal.returns-clause-drawer
returns-clause-drawer g c = drawer_gives c.args.self.now c.args.pass.now (record { pass = c.hand.new.from }) c.requires.drawer c.hand.ensures.from.0 c.hand.ensures.from.1
