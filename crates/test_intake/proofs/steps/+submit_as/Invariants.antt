use Rattle.std.proofs.Common.{length}
use Rattle.test_intake.proofs.steps.+submit_as.Given as goal

abbrev pub decreases-submit_as : goal.decreases-submit_as
decreases-submit_as g l = length l.clients.now
