use Rattle.retries.proofs.Moved.{goes_on_from_rows, replies_from_rows}
use Rattle.retries.proofs.laws.a_log_goes_on_from_its_rows.Goals as goal

pub returns-clause-after : goal.returns-clause-after
returns-clause-after c = goes_on_from_rows

pub returns-clause-replies : goal.returns-clause-replies
returns-clause-replies c = replies_from_rows
