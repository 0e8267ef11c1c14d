use Rattle.retries.proofs.Short.{attempts_short}
use Rattle.retries.proofs.laws.batches_are_short.Goals as goal

pub returns : goal.returns
returns c = attempts_short
