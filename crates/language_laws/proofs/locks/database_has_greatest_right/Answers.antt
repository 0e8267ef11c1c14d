use Rattle.language_laws.proofs.Database.{greatest_of_all}
use Rattle.language_laws.proofs.locks.database_has_greatest_right.Goals as goal

pub returns : goal.returns
returns c = greatest_of_all
