use Rattle.std.proofs.Common.{All}
use Rattle.row_text.specs.Kept.{IsPartitionOf}
use Rattle.row_store.proofs.side_by_side.unkept_of.Given as goal

-- the partitions that were added are of the tables
abbrev pub invariant-loop-place : goal.invariant-loop-place
invariant-loop-place l = All (IsPartitionOf l.catalogue) l.unkept.parts.items
