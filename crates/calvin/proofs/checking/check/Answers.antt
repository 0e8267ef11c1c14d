use Rattle.std.proofs.Common.{inr}
use Rattle.calvin.proofs.checking.check.Goals as goal

pub returns-in-Ok : goal.returns-in-Ok
returns-in-Ok g c = inr (c.in-Ok.document, c.in-Ok.ensures.setup, c.count.ensures)
