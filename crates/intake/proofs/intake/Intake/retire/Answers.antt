use Rattle.std.proofs.Common.{◌∙◌}
use Rattle.intake.proofs.Moves.{joins}
use Rattle.intake.proofs.Steps.{drawer_takes_all}
use Rattle.intake.proofs.intake.Intake.retire.Goals as goal

pub absorb-requires-clause-rule : goal.absorb-requires-clause-rule
absorb-requires-clause-rule g c = joins _ _ _ _

pub returns-clause-drawer : goal.returns-clause-drawer
returns-clause-drawer g c =
    let same = c.absorb.ensures.queue in
    let own = c.requires.drawer.pass in
    (drawer_takes_all c.args.self.now c.args.pass.now (record { pass = c.absorb.new.pass }) c.args.client c.requires.drawer c.requires.client (same.0 ∙ own.0, same.2 ∙ own.1) c.absorb.ensures.rule).0
