-- Claimed: what contracts promise to a reader rests on these words.
-- What the two kinds of pass know, and which tally they belong to.
use Rattle.std.specs.Prelude.{◌≡◌, List}
use Rattle.atomic_table.specs.Seated.{TableId}
use Rattle.crossbeam_utils.specs.Seq.{cell_view}
use Rattle.progress.specs.declared.tally.Tally.{Tally}
use Rattle.progress.specs.declared.progress.Progress.{Progress}
use Rattle.progress.specs.declared.passes.WriterPass.{WriterPass}
use Rattle.progress.specs.declared.passes.WatchPass.{WatchPass}

-- the published list, which begins with four zeros and gains a tally at each publish
abbrev pub published : WriterPass → List Tally
published w = (cell_view w.pass).seen

-- the beginning of the published list that ends with the last tally read, or told of
abbrev pub seen : WatchPass → List Tally
seen p = (cell_view p.pass).seen

-- where a list is published: no two lists that exist at a time have one place
abbrev pub progress_place : Progress → TableId
progress_place progress = progress.cell.table.shared.table_id

-- where the list of a pass is published
abbrev pub writer_place : WriterPass → TableId
writer_place w = w.pass.table_id

-- where the list of a watch pass is published
abbrev pub watch_place : WatchPass → TableId
watch_place p = p.pass.table_id

-- a pass is the writer of this tally
abbrev pub IsWriterOf : Progress → WriterPass → Type 0
IsWriterOf progress w = writer_place w ≡ progress_place progress

-- a pass watches this tally
abbrev pub IsWatchOf : Progress → WatchPass → Type 0
IsWatchOf progress p = watch_place p ≡ progress_place progress

-- two passes write one tally
abbrev pub IsSameWriter : WriterPass → WriterPass → Type 0
IsSameWriter v w = writer_place w ≡ writer_place v

-- two passes watch one tally
abbrev pub IsSameWatch : WatchPass → WatchPass → Type 0
IsSameWatch v w = watch_place w ≡ watch_place v
