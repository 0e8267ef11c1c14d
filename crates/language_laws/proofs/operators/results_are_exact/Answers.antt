use Rattle.language_laws.proofs.Results.{exactly}
use Rattle.language_laws.proofs.operators.results_are_exact.Goals as goal

pub returns : goal.returns
returns c = exactly
