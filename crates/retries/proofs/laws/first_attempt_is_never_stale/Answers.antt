use Rattle.retries.proofs.NeverStale.{entry_isnt, first_isnt}
use Rattle.retries.proofs.laws.first_attempt_is_never_stale.Goals as goal

pub returns-clause-first : goal.returns-clause-first
returns-clause-first c = first_isnt c.found_request_holds_in_its_batch.ensures.first

pub returns-clause-entry : goal.returns-clause-entry
returns-clause-entry c = entry_isnt c.found_request_holds_in_its_batch.ensures.first
