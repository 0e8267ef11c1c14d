use Rattle.coarsen.proofs.CoarseningLaws.{drops_covered}
use Rattle.coarsen.proofs.laws.covered_entries_go.Goals as goal

pub returns : goal.returns
returns c = drops_covered
