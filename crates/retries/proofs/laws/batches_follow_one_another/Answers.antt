use Rattle.std.proofs.Common.{[], ◌∷◌}
use Rattle.retries.proofs.Followed.{after_batches-append, in_turn-append}
use Rattle.retries.proofs.laws.batches_follow_one_another.Goals as goal

pub returns-clause-after : goal.returns-clause-after
returns-clause-after c = after_batches-append

pub returns-clause-after_one : goal.returns-clause-after_one
returns-clause-after_one c = λ retries s batches calls. after_batches-append retries s batches (calls ∷ [])

pub returns-clause-in_turn : goal.returns-clause-in_turn
returns-clause-in_turn c = in_turn-append

pub returns-clause-in_turn_one : goal.returns-clause-in_turn_one
returns-clause-in_turn_one c = λ retries s batches calls. in_turn-append retries s batches (calls ∷ [])
