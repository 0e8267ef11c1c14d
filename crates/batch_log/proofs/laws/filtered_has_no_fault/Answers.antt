use Rattle.batch_log.proofs.FilterLaws.{filtered_too_long}
use Rattle.batch_log.proofs.laws.filtered_has_no_fault.Goals as goal

pub returns : goal.returns
returns c = filtered_too_long
