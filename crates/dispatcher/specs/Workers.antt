-- Of the code: invariants and steps; no promise rests on these words.
-- A worker's seat between two jobs.
use Rattle.std.specs.Prelude.{◌≡◌}
use Rattle.lanes.specs.Seats.{WorkerSeatOf, jobs_in}

-- each job that it claimed is delivered
abbrev pub HoldsNoJob : WorkerSeatOf → Type 0
HoldsNoJob seat = jobs_in seat.jobs ≡ 0
