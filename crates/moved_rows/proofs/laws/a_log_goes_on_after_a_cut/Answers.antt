use Rattle.moved_rows.proofs.AfterCut.{run_in_two}
use Rattle.moved_rows.proofs.CutLogs.{in_two}
use Rattle.moved_rows.proofs.laws.a_log_goes_on_after_a_cut.Goals as goal

pub returns-clause-faults : goal.returns-clause-faults
returns-clause-faults c = λ start first rest ends fine. let two = in_two start.procs.procs start.retries first rest ends fine in (two.first_fine, two.rest_fine)

pub returns-clause-batches : goal.returns-clause-batches
returns-clause-batches c = λ start first rest ends fine none. (run_in_two start first rest ends fine none).batches

pub returns-clause-rows : goal.returns-clause-rows
returns-clause-rows c = λ start first rest ends fine none. (run_in_two start first rest ends fine none).rows

pub returns-clause-outcomes : goal.returns-clause-outcomes
returns-clause-outcomes c = λ start first rest ends fine none. (run_in_two start first rest ends fine none).outcomes
