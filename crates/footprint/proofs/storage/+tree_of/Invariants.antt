use Rattle.std.proofs.Common.{length}
use Rattle.footprint.proofs.storage.+tree_of.Given as goal

-- how many entries there are
abbrev pub decreases-tree_of : goal.decreases-tree_of
decreases-tree_of l = length l.entries.now
