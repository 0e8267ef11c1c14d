use Rattle.shelves.proofs.PartEnds.{part_ends}
use Rattle.shelves.proofs.shelving.has_ends.Goals as goal

pub returns : goal.returns
returns c = part_ends c.args.catalogue.now c.len-tables.ensures.sound
