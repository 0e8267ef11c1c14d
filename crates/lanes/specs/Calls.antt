-- Claimed: what contracts promise to a reader rests on these words.
-- What the calls come to for the seat that makes them.
use Rattle.std.specs.Prelude.{◌≡◌, ℕ, ◌+◌, ◌<◌, List, [], ◌∷◌, ◌++◌, Option, None, Some, slice_get, slice_set}
use Rattle.hand_off.specs.declared.state.LaneState.TheVariants.{Waiting, Finished}
use Rattle.hand_off.specs.Notes.{Misses, Finds}
use Rattle.scheduler.specs.JobRuns.{JobOf, DoneOf, IsDoneOf}
use Rattle.lanes.specs.Seats.{SchedulerSeatOf, WorkerSeatOf, jobs_in}
use Rattle.lanes.specs.Stands.{WorkerStands, SchedulerStands, AllShownToWorker, AllShownToScheduler}

-- the lane has no job, and each lane below it has one
pub record IsLowestFree (jobs : List (Option JobOf)) (lane : ℕ) : Type 0 where
  pub free : slice_get jobs lane ≡ Some None
  pub lowest : (k : ℕ) → k < lane → (job : JobOf) × (slice_get jobs k ≡ Some (Some job))

-- the scheduler has collected what came of the job that is in a lane, and the lane has no job any more. There was a
-- moment at which its seat stood in the lanes with its new value
pub record Collects (old : SchedulerSeatOf) (lane : ℕ) (done : DoneOf) (new : SchedulerSeatOf) : Type 0 where
  pub near : lane < old.lanes.count
  pub job : JobOf
  pub there : slice_get old.jobs lane ≡ Some (Some job)
  pub comes : IsDoneOf job done
  pub notes : Finds Finished lane old.notes new.notes
  pub new_is : new ≡ record old { jobs = slice_set old.jobs lane None; notes = new.notes }
  pub fewer : jobs_in new.jobs + 1 ≡ jobs_in old.jobs
  pub shown : AllShownToScheduler old new.notes
  pub stands : SchedulerStands new

-- the scheduler has looked at each lane, and found none with a result: each was doing what
-- its note says, at a moment of its look
pub record CollectsNothing (old new : SchedulerSeatOf) : Type 0 where
  pub notes : Misses Finished old.lanes.count old.notes new.notes
  pub new_is : new ≡ record old { notes = new.notes }
  pub shown : AllShownToScheduler old new.notes

-- a worker has claimed the job of a lane. There was a moment at which its seat stood in the lanes with its new value
pub record Claims (old : WorkerSeatOf) (lane : ℕ) (job : JobOf) (new : WorkerSeatOf) : Type 0 where
  pub near : lane < old.lanes.count
  pub free : slice_get old.jobs lane ≡ Some None
  pub has : slice_get new.jobs lane ≡ Some (Some job)
  pub put : ℕ
  pub notes : Finds Waiting lane old.notes new.notes
  pub new_is : new ≡ record old {
    jobs = slice_set old.jobs lane (Some job);
    claims = old.claims ++ record { put = put; lane = lane; job = job } ∷ [];
    notes = new.notes;
  }
  pub shown : AllShownToWorker old new.notes
  pub stands : WorkerStands new

-- a worker has looked at each lane, and found none whose job waits: each was doing what its
-- note says, at a moment of its look
pub record ClaimsNothing (old new : WorkerSeatOf) : Type 0 where
  pub notes : Misses Waiting old.lanes.count old.notes new.notes
  pub new_is : new ≡ record old { notes = new.notes }
  pub shown : AllShownToWorker old new.notes

-- it comes of the job that a worker has at a lane
pub record IsDoneAt (jobs : List (Option JobOf)) (lane : ℕ) (done : DoneOf) : Type 0 where
  pub job : JobOf
  pub has : slice_get jobs lane ≡ Some (Some job)
  pub comes : IsDoneOf job done
