use Rattle.coarsen.proofs.TreeLaws.{footprints_are_of}
use Rattle.coarsen.proofs.laws.footprints_are_of_catalogues.Goals as goal

pub returns : goal.returns
returns c = footprints_are_of
