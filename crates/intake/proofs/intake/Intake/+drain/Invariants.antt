use Rattle.std.proofs.Common.{length}
use Rattle.intake.proofs.intake.Intake.+drain.Given as goal

abbrev pub decreases-drain : goal.decreases-drain
decreases-drain g l = length l.clients.now
