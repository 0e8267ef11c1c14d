use Rattle.std.proofs.Common.{sym, subst}
use Rattle.sequencer.specs.Batches.{AreOver}
use Rattle.sequencer.proofs.Numbered.{numbered_over}
use Rattle.sequencer.proofs.batch.Batch.of.Goals as goal

pub returns-in-Ok-clause-over : goal.returns-in-Ok-clause-over
returns-in-Ok-clause-over c = λ tables over. subst (AreOver tables) (sym c.in-Ok.ensures) (numbered_over tables 0 c.args.requests.items over)
