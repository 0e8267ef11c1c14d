-- Claimed: what contracts promise to a reader rests on these words.
-- Moments of the lanes, the seats that are there with their values, and what calls tell of them: each tells of moments
-- at which the rule held and its own seat was there. The laws speak of such moments.
use Rattle.std.specs.Prelude.{◌≡◌, ◌<◌, ◌≤◌, ℕ, true, List, map, length, take, Some, slice_get, slice_index_or}
use mathlib.Core.Option.{some}
use lib.ListN.{get_elem?}
use Rattle.hand_off.specs.declared.state.Note.{Note}
use Rattle.hand_off.specs.declared.view.View.{View}
use Rattle.hand_off.specs.Rule.{Laned}
use Rattle.hand_off.specs.Stands.{Moment as MomentOf}
use Rattle.hand_off.specs.Words.{word_of}
use Rattle.scheduler.specs.JobRuns.{JobOf, DoneOf, IsDoneOf}
use Rattle.lanes.specs.Seats.{SchedulerSeatOf, WorkerSeatOf}
use Rattle.lanes.specs.Kept.{job_of}

-- the lanes between two steps: their words, their slots and all views
abbrev pub Moment : Type 0
Moment = MomentOf JobOf DoneOf

-- the seat of this number is a worker's, with this value
pub record HasWorker (moment : Moment) (number : ℕ) (seat : WorkerSeatOf) : Type 0 where
  pub view : View JobOf
  pub there : get_elem? moment.views number ≡ some view
  pub jobs : seat.jobs ≡ view.claimed
  pub claims : seat.claims ≡ view.claims

-- the seat of this number is the scheduler's, with this value
pub record HasScheduler (moment : Moment) (number : ℕ) (seat : SchedulerSeatOf) : Type 0 where
  pub view : View JobOf
  pub there : get_elem? moment.views number ≡ some view
  pub schedules : view.schedules ≡ true
  pub jobs : seat.jobs ≡ map job_of view.known
  pub puts : seat.puts ≡ view.puts

-- there was a moment at which the rule held and a worker's seat, whatever its number, stood there with this value
pub record WorkerStands (seat : WorkerSeatOf) : Type 0 where
  pub moment : Moment
  pub rule : Laned IsDoneOf moment
  pub number : ℕ
  pub has : HasWorker moment number seat
  pub notes : seat.notes ≡ has.view.notes

-- the same of the scheduler's seat
pub record SchedulerStands (seat : SchedulerSeatOf) : Type 0 where
  pub moment : Moment
  pub rule : Laned IsDoneOf moment
  pub number : ℕ
  pub has : HasScheduler moment number seat
  pub notes : seat.notes ≡ has.view.notes

-- at this moment the lane of the note was doing what the note says
pub record Shows (moment : Moment) (note : Note) : Type 0 where
  pub near : note.lane < length moment.words
  pub word : slice_index_or moment.words note.lane 0 ≡ word_of note.found

pub record ShownToWorker (seat : WorkerSeatOf) (note : Note) : Type 0 where
  pub stands : WorkerStands seat
  pub shows : Shows stands.moment note

pub record ShownToScheduler (seat : SchedulerSeatOf) (note : Note) : Type 0 where
  pub stands : SchedulerStands seat
  pub shows : Shows stands.moment note

-- of all notes, each that was added since a worker's seat had this value says what the lane was doing at a moment of
-- its look: at which the seat stood there with the same value and the notes before that one
pub record AllShownToWorker (old : WorkerSeatOf) (notes : List Note) : Type 0 where
  pub each : (i : ℕ) (note : Note) → length old.notes ≤ i → slice_get notes i ≡ Some note
      → ShownToWorker (record old { notes = take i notes }) note

-- the same of the scheduler's seat
pub record AllShownToScheduler (old : SchedulerSeatOf) (notes : List Note) : Type 0 where
  pub each : (i : ℕ) (note : Note) → length old.notes ≤ i → slice_get notes i ≡ Some note
      → ShownToScheduler (record old { notes = take i notes }) note
