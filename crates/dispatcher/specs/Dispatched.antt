-- Of the code: invariants and steps; no promise rests on these words.
-- Jobs that are with the workers.
use Rattle.std.specs.Prelude.{◌≡◌, ◌≢◌, ℕ, ◌+◌, ◌-◌, ◌<◌, true, false, Option, Some, None, slice_get}
use Rattle.scheduler.specs.JobRuns.{JobOf}
use Rattle.scheduler_core.specs.declared.event.Event.TheVariants.{Admit}
use Rattle.scheduler_core.specs.Phases.{is_out, progress}
use Rattle.scheduler.specs.declared.slot.Slot.TheVariants.{Lent}
use Rattle.scheduler.specs.Schedules.{Schedule, phases_of}
use Rattle.scheduler.specs.Moments.{can_make, IsLeastLendAt}
use Rattle.scheduler.specs.Jobs.{IsLentAt}
use Rattle.lanes.specs.Seats.{SchedulerSeatOf, jobs_in}
use Rattle.progress.specs.Accounts.{Account}
use Rattle.dispatcher.specs.Runs.{StaysSettled}
use Rattle.dispatcher.specs.Listeners.{AreCounted, HearsOn}

-- the scheduler lent this job, and it is out
pub record IsOut (s : Schedule) (job : JobOf) : Type 0 where
  pub out : slice_get s.slots (job.no - s.work.first) ≡ Some Lent
  pub lent : IsLentAt s.work (job.no - s.work.first) job

-- a lane has the job of that number
pub record HasJob (seat : SchedulerSeatOf) (number : ℕ) : Type 0 where
  pub lane : ℕ
  pub job : JobOf
  pub there : slice_get seat.jobs lane ≡ Some (Some job)
  pub numbered : job.no ≡ number

-- what is out is in the lanes, each job in one
pub record AreInLanes (s : Schedule) (seat : SchedulerSeatOf) : Type 0 where
  pub each : (lane : ℕ) (job : JobOf) → slice_get seat.jobs lane ≡ Some (Some job) → IsOut s job
  pub apart : (i k : ℕ) (job other : JobOf) → i ≢ k → slice_get seat.jobs i ≡ Some (Some job)
      → slice_get seat.jobs k ≡ Some (Some other) → job.no ≢ other.no
  pub all : (place : ℕ) → is_out (slice_get (phases_of s) place) ≡ true → HasJob seat (s.work.first + place)

-- the seat is of the same lanes, and what is out is in them
abbrev pub AreStillInLanes : Schedule → SchedulerSeatOf → SchedulerSeatOf → Type 0
AreStillInLanes s old new = (new.lanes ≡ old.lanes) × AreInLanes s new

-- a run went on, or stayed where it was: its work is the same, what was settled is settled still, and a listener has
-- heard of all that is settled now, and of nothing else
pub record RunsOn (old : Schedule) (account : Option Account) (new : Schedule) (heard : Option Account) : Type 0 where
  pub work : new.work ≡ old.work
  pub settled : StaysSettled (phases_of old) (phases_of new)
  pub told : AreCounted new heard
  pub onward : HearsOn account heard

-- a run got further
abbrev pub GetsFurther : Schedule → Schedule → Type 0
GetsFurther old new = progress (phases_of old) < progress (phases_of new)

-- there is no job to hand out, and no way but to wait where one is out: no transaction is ready while a lane is free,
-- and where no job is out, none can be admitted
pub record MustWait (s : Schedule) (seat : SchedulerSeatOf) : Type 0 where
  pub none_ready : jobs_in seat.jobs < seat.lanes.count → IsLeastLendAt s None
  pub none_next : jobs_in seat.jobs ≡ 0 → can_make s Admit ≡ false
