use Rattle.retries.proofs.Ended.{nothing_left}
use Rattle.retries.proofs.laws.nothing_is_left_at_the_end.Goals as goal

pub returns : goal.returns
returns c = nothing_left
