use Rattle.std.proofs.Common.{◌≡◌, ◌++◌, map, string_bytes}
use Rattle.std.specs.List.{concat, range_with_len}
use Rattle.row_text.specs.Kept.{AreKept}
use Rattle.row_text.specs.Partitions.{line_of_partition}
use Rattle.row_text.proofs.partitions.push_partitions.Given as goal

-- the lines of the partitions before this one are appended
abbrev pub invariant-loop-part : goal.invariant-loop-part
invariant-loop-part g l =
    (string_bytes l.text
    ≡ string_bytes l.fn.text ++ concat (map (line_of_partition l.catalogue l.table (g.V.RowView.rows l.view)) (range_with_len 0 l.part)))
    × AreKept l.catalogue (g.V.RowView.rows l.view) l.kept
