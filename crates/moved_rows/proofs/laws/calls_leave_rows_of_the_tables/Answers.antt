use Rattle.moved_rows.proofs.Rows.{rows_left, types_of}
use Rattle.moved_rows.proofs.laws.calls_leave_rows_of_the_tables.Goals as goal

pub returns : goal.returns
returns c = λ tables calls db over are h. rows_left tables calls db (c.every_row_left_by_calls_has_its_line.ensures.types tables calls db over (types_of tables db h)) are h
