use Rattle.running.proofs.ReplyLines.{replies_are, standing_is}
use Rattle.running.proofs.laws.engine_goes_on_as_the_serial_run.Goals as goal

pub returns-clause-standing : goal.returns-clause-standing
returns-clause-standing c = λ old new batch run calls e r. standing_is old new batch run calls r e

pub returns-clause-replies : goal.returns-clause-replies
returns-clause-replies c = λ old new batch run calls e r. replies_are old new batch run calls r e
