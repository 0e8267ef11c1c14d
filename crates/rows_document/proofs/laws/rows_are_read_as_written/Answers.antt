use Rattle.rows_document.proofs.ReadBack.{read_back}
use Rattle.rows_document.proofs.laws.rows_are_read_as_written.Goals as goal

pub returns : goal.returns
returns c = read_back
