-- Claimed: what contracts promise to a reader rests on these words.
-- How seats keep what they know.
use Rattle.std.specs.Prelude.{◌≡◌, ◌≤◌, ℕ, List, [], map, length, Option, None, Some, is_some, count_by, Contains, slice_index_or}
use Rattle.atomic_table.specs.Seated.{TableId}
use Rattle.std.specs.VecDeque.{deque_capacity, deque_len}
use Rattle.hand_off.specs.declared.view.Known.{Known}
use Rattle.hand_off.specs.declared.view.Known.TheVariants.{Idle, Filling, Put, Draining}
use Rattle.hand_off.specs.declared.view.Load.{Load}
use Rattle.hand_off.specs.declared.view.View.{View}
use Rattle.hand_off.specs.Seats.{AtRest}
use Rattle.scheduler.specs.JobRuns.{JobOf, DoneOf}
use Rattle.lanes.specs.Seats.{SchedulerSeatOf, WorkerSeatOf}
use Rattle.lanes.specs.declared.seats.SchedulerSeat.TheInside as scheduler
use Rattle.lanes.specs.declared.seats.WorkerSeat.TheInside as worker

-- the job that is in a lane
abbrev pub job_of : Known JobOf → Option JobOf
job_of Idle = None
job_of Filling = None
job_of (Put job) = Some job
job_of (Draining job) = Some job

-- what the scheduler's seat of this table, with this view, is seen as
abbrev pub seen_by_scheduler : TableId → View JobOf → SchedulerSeatOf
seen_by_scheduler table v = record {
  lanes = record { table = table; count = table.words };
  jobs = map job_of v.known;
  puts = v.puts;
  notes = v.notes;
}

abbrev pub scheduler_seat : scheduler.Inside → SchedulerSeatOf
scheduler_seat s = seen_by_scheduler s.seat.table_id s.seat.me.0

-- it is in the midst of no call, and has no slot
pub record IsAtRest (s : scheduler.Inside) : Type 0 where
  pub at_rest : AtRest s.seat.table_id.words s.seat.me.0
  pub no_slot : s.seat.me.1 ≡ []

-- what a worker's seat of this table, with this view, is seen as
abbrev pub seen_by_worker : TableId → View JobOf → WorkerSeatOf
seen_by_worker table v = record {
  lanes = record { table = table; count = table.words };
  jobs = v.claimed;
  claims = v.claims;
  notes = v.notes;
}

abbrev pub worker_seat : worker.Inside → WorkerSeatOf
worker_seat w = seen_by_worker w.seat.table_id w.seat.me.0

-- the slots of these lanes, each empty
abbrev pub empties : List ℕ → List (ℕ × Option (Load JobOf DoneOf))
empties lanes = map (λ lane. (lane, None)) lanes

-- it has the slots of the lanes that it holds, in their order; it holds each lane whose job it has, no more than these,
-- and has room for all lanes
pub record IsAtWork (w : worker.Inside) : Type 0 where
  pub wide : length w.seat.me.0.claimed ≡ w.seat.table_id.words
  pub slots : w.seat.me.1 ≡ empties w.held.items
  pub holds : (lane : ℕ) (job : JobOf) → slice_index_or w.seat.me.0.claimed lane None ≡ Some job
      → Contains w.held.items lane
  pub no_more : deque_len w.held ≡ count_by is_some w.seat.me.0.claimed
  pub room : w.seat.table_id.words ≤ deque_capacity w.held
