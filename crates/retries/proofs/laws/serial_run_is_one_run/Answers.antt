use Rattle.retries.proofs.Serial.{lines_grown, next_is, replies_grown, rows_are, transactions_grown}
use Rattle.retries.proofs.laws.serial_run_is_one_run.Goals as goal

pub returns-clause-rows : goal.returns-clause-rows
returns-clause-rows c = rows_are

pub returns-clause-next : goal.returns-clause-next
returns-clause-next c = next_is

pub returns-clause-transactions : goal.returns-clause-transactions
returns-clause-transactions c = transactions_grown

pub returns-clause-replies : goal.returns-clause-replies
returns-clause-replies c = replies_grown

pub returns-clause-lines : goal.returns-clause-lines
returns-clause-lines c = lines_grown
