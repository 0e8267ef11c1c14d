use Rattle.moved_rows.proofs.GoingOn.{rows_of_front, rows_of_whole, said_front}
use Rattle.moved_rows.proofs.laws.rows_of_a_run_are_of_the_tables.Goals as goal

pub returns-clause-whole : goal.returns-clause-whole
returns-clause-whole c = rows_of_whole c.calls_leave_rows_of_the_tables.ensures

pub returns-clause-batches : goal.returns-clause-batches
returns-clause-batches c = rows_of_front c.calls_leave_rows_of_the_tables.ensures

pub returns-clause-cuts : goal.returns-clause-cuts
returns-clause-cuts c = λ text s start log before later said of is.
    let front = said_front start log before later is in
    rows_of_front c.calls_leave_rows_of_the_tables.ensures text s start log before front.0 said of front.1
