use Rattle.std.proofs.Common.{length}
use Rattle.footprint.specs.Tree.{ancestors_of}
use Rattle.footprint.proofs.footprint.Footprint.+covers.Given as goal

-- how many ancestors are left
abbrev pub decreases-covers : goal.decreases-covers
decreases-covers l = length (ancestors_of l.resource.now)
