use Rattle.moved_rows.specs.Starts.{rows_left}
use Rattle.moved_rows.proofs.GoingOn.{catalogue_of, goes_on, none_left}
use Rattle.moved_rows.proofs.laws.a_run_goes_on_from_written_rows.Goals as goal
use Rattle.running.specs.Reports.{calls_in_turn}

pub returns-clause-whole : goal.returns-clause-whole
returns-clause-whole c = λ text s start log said of none.
    let before = calls_in_turn start log in
    let rows = c.rows_of_a_run_are_of_the_tables.ensures.whole text s start log said of in
    goes_on c.setup_starts_from_written_rows.ensures.own c.setup_starts_from_written_rows.ensures.other c.a_log_goes_on_from_its_rows.ensures.after c.a_log_goes_on_from_its_rows.ensures.replies
    text s start before said of rows (c.rows_are_read_as_written.ensures s.tables (rows_left start before) (catalogue_of text s said) rows) (none_left c.nothing_is_left_at_the_end.ensures start log none)

pub returns-clause-batches : goal.returns-clause-batches
returns-clause-batches c = λ text s start log before later said of is none.
    let rows = c.rows_of_a_run_are_of_the_tables.ensures.batches text s start log before later said of is in
    goes_on c.setup_starts_from_written_rows.ensures.own c.setup_starts_from_written_rows.ensures.other c.a_log_goes_on_from_its_rows.ensures.after c.a_log_goes_on_from_its_rows.ensures.replies
    text s start before said of rows (c.rows_are_read_as_written.ensures s.tables (rows_left start before) (catalogue_of text s said) rows) none

pub returns-clause-cuts : goal.returns-clause-cuts
returns-clause-cuts c = λ text s start log before later said of is none.
    let rows = c.rows_of_a_run_are_of_the_tables.ensures.cuts text s start log before later said of is in
    goes_on c.setup_starts_from_written_rows.ensures.own c.setup_starts_from_written_rows.ensures.other c.a_log_goes_on_from_its_rows.ensures.after c.a_log_goes_on_from_its_rows.ensures.replies
    text s start before said of rows (c.rows_are_read_as_written.ensures s.tables (rows_left start before) (catalogue_of text s said) rows) none
