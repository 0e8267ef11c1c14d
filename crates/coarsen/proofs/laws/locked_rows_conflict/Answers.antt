use Rattle.coarsen.proofs.Clashing.{locked_rows}
use Rattle.coarsen.proofs.laws.locked_rows_conflict.Goals as goal

pub returns : goal.returns
returns c = locked_rows
