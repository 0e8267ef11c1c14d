use Rattle.std.proofs.Common.{ℕ, ◌<◌, slice_index_or}
use Rattle.row_text.specs.declared.side_by_side.Hashing.{Hashing}
use Rattle.row_text.specs.Kept.{AreKept, IsKept}
use Rattle.row_text.specs.SideBySide.{partition_of}
use Rattle.row_text.proofs.side_by_side.keep_all.Given as goal

-- the hashes of the partitions before this one are kept
abbrev pub invariant-loop-hashing : goal.invariant-loop-hashing
invariant-loop-hashing g l =
    AreKept l.catalogue (g.V.RowView.rows l.view) l.kept
    × ((k : ℕ) (d : Hashing) → k < l.hashing-index
    → IsKept l.catalogue (g.V.RowView.rows l.view) l.kept (partition_of (slice_index_or l.hashings k d)))
