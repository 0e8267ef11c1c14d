use Rattle.setup.proofs.ToldRows.{told}
use Rattle.setup.proofs.laws.row_faults_are_told_apart.Goals as goal

pub returns : goal.returns
returns c = told
