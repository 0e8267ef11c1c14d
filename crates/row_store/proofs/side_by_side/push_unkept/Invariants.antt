use Rattle.std.proofs.Common.{All}
use Rattle.row_text.specs.Kept.{IsPartitionOf}
use Rattle.row_store.proofs.side_by_side.push_unkept.Given as goal

-- the partitions that were added are of the tables
abbrev pub invariant-loop-part : goal.invariant-loop-part
invariant-loop-part l = All (IsPartitionOf l.catalogue) l.unkept.parts.items
