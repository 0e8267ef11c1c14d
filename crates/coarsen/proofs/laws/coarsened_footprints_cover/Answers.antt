use Rattle.coarsen.proofs.Coarsened.{covers_without_excess}
use Rattle.coarsen.proofs.laws.coarsened_footprints_cover.Goals as goal

pub returns : goal.returns
returns c = covers_without_excess
