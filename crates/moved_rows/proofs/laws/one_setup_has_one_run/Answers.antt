use Rattle.moved_rows.proofs.OneRun.{one_run}
use Rattle.moved_rows.proofs.laws.one_setup_has_one_run.Goals as goal

pub returns-clause-fault : goal.returns-clause-fault
returns-clause-fault c = λ s a b log h k. (one_run s a b log h k).fault

pub returns-clause-report : goal.returns-clause-report
returns-clause-report c = λ s a b log h k. (one_run s a b log h k).report

pub returns-clause-rows : goal.returns-clause-rows
returns-clause-rows c = λ s a b log h k. (one_run s a b log h k).rows

pub returns-clause-outcomes : goal.returns-clause-outcomes
returns-clause-outcomes c = λ s a b log h k. (one_run s a b log h k).outcomes
