use Rattle.std.proofs.Common.{◌≡◌, map, string_bytes}
use Rattle.std.specs.List.{concat, range_with_len}
use Rattle.row_text.specs.Kept.{AreKept}
use Rattle.row_text.specs.Partitions.{partition_lines}
use Rattle.row_text.proofs.partitions.partition_text_digest.Given as goal

-- the text has the lines of the tables before this one
abbrev pub invariant-loop-place : goal.invariant-loop-place
invariant-loop-place g l =
    (string_bytes l.text ≡ concat (map (partition_lines l.catalogue (g.V.RowView.rows l.view)) (range_with_len 0 l.place)))
    × AreKept l.catalogue (g.V.RowView.rows l.view) l.kept
