use Rattle.intake.proofs.Steps.{drawer_takes}
use Rattle.intake.proofs.intake.Intake.lend.Goals as goal

pub returns-clause-drawer : goal.returns-clause-drawer
returns-clause-drawer g c = drawer_takes c.args.self.now c.args.pass.now (record { pass = c.hand.new.to }) c.args.client.now c.requires.drawer c.requires.client c.hand.ensures.to.0 c.hand.ensures.to.1
