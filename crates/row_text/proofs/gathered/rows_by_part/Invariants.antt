use Rattle.std.proofs.Common.{IsPermutation}
use Rattle.std.specs.FinMap.{entries}
use Rattle.workspace.specs.Scan.{by_key, referred}
use Rattle.row_text.proofs.MergedRows.{kept}
use Rattle.row_text.proofs.Gathering.{is_before}
use Rattle.row_text.proofs.gathered.rows_by_part.Given as goal

-- the rows of the partitions before this one
abbrev pub invariant-loop-part : goal.invariant-loop-part
invariant-loop-part g l = IsPermutation (by_key (kept (is_before l.catalogue l.table l.part) (entries (g.V.RowView.rows l.view)))) (referred l.gathered.items)
