use Rattle.row_text.proofs.Rows.{lines_left, types_left}
use Rattle.row_text.proofs.laws.every_row_left_by_calls_has_its_line.Goals as goal

pub returns-clause-types : goal.returns-clause-types
returns-clause-types c = types_left c.stand_in_never_shows.ensures

pub returns-clause-lines : goal.returns-clause-lines
returns-clause-lines c = lines_left c.stand_in_never_shows.ensures
