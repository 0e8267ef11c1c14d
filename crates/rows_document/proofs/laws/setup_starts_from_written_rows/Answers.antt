use Rattle.rows_document.proofs.ReadBack.{goes_on_with_rows, starts_with_rows}
use Rattle.rows_document.proofs.laws.setup_starts_from_written_rows.Goals as goal

pub returns-clause-own : goal.returns-clause-own
returns-clause-own c = starts_with_rows

pub returns-clause-other : goal.returns-clause-other
returns-clause-other c = goes_on_with_rows
