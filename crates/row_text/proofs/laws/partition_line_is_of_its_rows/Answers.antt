use Rattle.row_text.proofs.PartitionLines.{digest_of_its_rows, line_of_its_rows}
use Rattle.row_text.proofs.laws.partition_line_is_of_its_rows.Goals as goal

pub returns-clause-digest : goal.returns-clause-digest
returns-clause-digest c = digest_of_its_rows

pub returns-clause-line : goal.returns-clause-line
returns-clause-line c = line_of_its_rows
