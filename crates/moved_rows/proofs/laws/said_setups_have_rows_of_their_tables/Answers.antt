use Rattle.moved_rows.proofs.Setups.{setup_parts, setup_procedures}
use Rattle.moved_rows.proofs.laws.said_setups_have_rows_of_their_tables.Goals as goal

pub returns-clause-rows : goal.returns-clause-rows
returns-clause-rows c = λ text s said. (setup_parts text s said).rows

pub returns-clause-procedures : goal.returns-clause-procedures
returns-clause-procedures c = setup_procedures
