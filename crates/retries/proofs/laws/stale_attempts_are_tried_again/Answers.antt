use Rattle.std.proofs.Common.{◌+◌}
use Rattle.sequencer.specs.Attempts.{carried_on}
use Rattle.sequencer.proofs.TriedAgain.{each_is_left, left_is_tried_again}
use Rattle.retries.specs.Standings.{attempts_at, after_batch, replies_at}
use Rattle.retries.proofs.Ended.{not_the_last}
use Rattle.retries.proofs.Few.{is_tried}
use Rattle.retries.proofs.laws.stale_attempts_are_tried_again.Goals as goal

pub returns-clause-carried : goal.returns-clause-carried
returns-clause-carried c = λ retries s calls. each_is_left retries s.next (attempts_at s calls) (replies_at s calls)

pub returns-clause-tried : goal.returns-clause-tried
returns-clause-tried c = λ retries s calls more place attempt tried stale few.
    is_tried (after_batch retries s calls) more (carried_on (record { no = s.next + place; attempt = attempt }))
    (each_is_left retries s.next (attempts_at s calls) (replies_at s calls) place attempt tried stale few)

pub returns-clause-only : goal.returns-clause-only
returns-clause-only c = λ retries s calls. left_is_tried_again retries s.next (attempts_at s calls) (replies_at s calls)

pub returns-clause-next : goal.returns-clause-next
returns-clause-next c = not_the_last
