use Rattle.sequencer.proofs.Attempted.{attempts_over}
use Rattle.sequencer.specs.Batches.{items_of}
use Rattle.sequencer.proofs.attempts.Attempts.of.Goals as goal

pub returns-clause-over : goal.returns-clause-over
returns-clause-over c = λ tables carried own. attempts_over tables c.args.carried.items (items_of c.args.batch) carried own
