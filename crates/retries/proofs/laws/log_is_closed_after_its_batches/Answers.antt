use Rattle.retries.proofs.Ended.{closing_few, closing_next}
use Rattle.retries.proofs.Followed.{closed-append, closed_calls, not_closed}
use Rattle.retries.proofs.laws.log_is_closed_after_its_batches.Goals as goal

pub returns-clause-after : goal.returns-clause-after
returns-clause-after c = closed-append

pub returns-clause-faulty : goal.returns-clause-faulty
returns-clause-faulty c = not_closed

pub returns-clause-calls : goal.returns-clause-calls
returns-clause-calls c = closed_calls

pub returns-clause-closing : goal.returns-clause-closing
returns-clause-closing c = closing_next

pub returns-clause-few : goal.returns-clause-few
returns-clause-few c = closing_few
