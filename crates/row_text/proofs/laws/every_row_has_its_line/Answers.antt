use Rattle.row_text.proofs.Rows.{all_rows}
use Rattle.row_text.proofs.laws.every_row_has_its_line.Goals as goal

pub returns : goal.returns
returns c = all_rows
