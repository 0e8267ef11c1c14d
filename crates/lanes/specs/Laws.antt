-- Claimed: what contracts promise to a reader rests on these words.
-- Laws of lanes: what their rule says of the seats that are there at one moment. `claim` tells of a moment at which the
-- rule holds and the worker's seat has its new claim. So the laws are of that moment: whichever other seats are there
-- have no claim of that put, and the scheduler, as it is then, has put that job into that lane. That a seat is there,
-- at every moment between two steps of its own, with the value that the first of them left it, is the promise of the
-- table of words, and not of these laws.
use Rattle.std.specs.Prelude.{◌≡◌, ℕ, length, Some, slice_get}
use Rattle.hand_off.specs.declared.view.Claim.{Claim}
use Rattle.hand_off.specs.Rule.{Laned}
use Rattle.scheduler.specs.JobRuns.{JobOf, IsDoneOf}
use Rattle.lanes.specs.Seats.{SchedulerSeatOf, WorkerSeatOf}
use Rattle.lanes.specs.Stands.{Moment, HasWorker, HasScheduler}
use Rattle.lanes.specs.Calls.{Claims}

-- two claims of one put are one claim, by one worker
abbrev pub ClaimedAtMostOnce : Type 0
ClaimedAtMostOnce = (moment : Moment) → Laned IsDoneOf moment
    → (a b k l : ℕ) (one other : WorkerSeatOf) (c d : Claim JobOf) → HasWorker moment a one → HasWorker moment b other
    → slice_get one.claims k ≡ Some c → slice_get other.claims l ≡ Some d → c.put ≡ d.put → (a ≡ b) × (k ≡ l)

-- a claim is of the lane and of the job of its put
abbrev pub ClaimedAsPut : Type 0
ClaimedAsPut = (moment : Moment) → Laned IsDoneOf moment
    → (a b k : ℕ) (worker : WorkerSeatOf) (scheduler : SchedulerSeatOf) (c : Claim JobOf) → HasWorker moment a worker
    → HasScheduler moment b scheduler
    → slice_get worker.claims k ≡ Some c → slice_get scheduler.puts c.put ≡ Some (c.lane, c.job)

-- the job that a worker has at a lane is the one that the scheduler's seat has there
abbrev pub HeldAsPut : Type 0
HeldAsPut = (moment : Moment) → Laned IsDoneOf moment
    → (a b lane : ℕ) (worker : WorkerSeatOf) (scheduler : SchedulerSeatOf) (job : JobOf) → HasWorker moment a worker
    → HasScheduler moment b scheduler
    → slice_get worker.jobs lane ≡ Some (Some job) → slice_get scheduler.jobs lane ≡ Some (Some job)

-- what a worker claims, at the moment that `claim` tells of: a claim of the same put by whichever seat is this claim
abbrev pub ClaimIsTheOnlyOne : Type 0
ClaimIsTheOnlyOne = (old new : WorkerSeatOf) (lane : ℕ) (job : JobOf) (claimed : Claims old lane job new) (b l : ℕ)
    (other : WorkerSeatOf) (d : Claim JobOf) → HasWorker claimed.stands.moment b other
    → slice_get other.claims l ≡ Some d → claimed.put ≡ d.put → (claimed.stands.number ≡ b) × (length old.claims ≡ l)

-- and that put of the scheduler's put that job into that lane, where it is
abbrev pub ClaimIsAsPut : Type 0
ClaimIsAsPut = (old new : WorkerSeatOf) (lane : ℕ) (job : JobOf) (claimed : Claims old lane job new) (b : ℕ)
    (scheduler : SchedulerSeatOf) → HasScheduler claimed.stands.moment b scheduler
    → (slice_get scheduler.puts claimed.put ≡ Some (lane, job)) × (slice_get scheduler.jobs lane ≡ Some (Some job))
