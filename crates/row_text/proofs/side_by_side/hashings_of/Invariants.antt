use Rattle.std.proofs.Common.{◌≡◌, map, take}
use Rattle.row_text.specs.SideBySide.{partition_of}
use Rattle.row_text.proofs.side_by_side.hashings_of.Given as goal

-- the hashings are those of the partitions before this one
abbrev pub invariant-loop-part : goal.invariant-loop-part
invariant-loop-part l = map partition_of l.hashings.items ≡ take l.part-index l.parts
