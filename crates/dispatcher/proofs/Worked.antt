-- A job that a worker claims and delivers leaves its seat without a job.
use Rattle.std.proofs.Common.{◌≡◌, ℕ, None, Some, ap, ◌∙◌, slice_set}
use Rattle.scheduler.proofs.Places.{set_twice, set_back}
use Rattle.scheduler.specs.JobRuns.{JobOf}
use Rattle.lanes.specs.Seats.{LanesOf, WorkerSeatOf, jobs_in, newcomer, delivers_from}
use Rattle.lanes.specs.Calls.{Claims, ClaimsNothing}
use Rattle.lanes.proofs.Counts.{none_in}
use Rattle.dispatcher.specs.Workers.{HoldsNoJob}

same_jobs : (old new last : WorkerSeatOf) (lane : ℕ) (job : JobOf) → Claims old lane job new → last ≡ delivers_from new lane → last.jobs ≡ old.jobs
same_jobs old new last lane job c is =
    ap (λ (s : WorkerSeatOf). s.jobs) is
    ∙ ap (λ (s : WorkerSeatOf). slice_set s.jobs lane None) c.new_is
    ∙ set_twice old.jobs lane (Some job) None
    ∙ set_back old.jobs lane None c.free

pub delivered : (old new last : WorkerSeatOf) (lane : ℕ) (job : JobOf) → HoldsNoJob old → Claims old lane job new → last ≡ delivers_from new lane → HoldsNoJob last
delivered old new last lane job h c is = ap jobs_in (same_jobs old new last lane job c is) ∙ h

pub none_claimed : (old new : WorkerSeatOf) → HoldsNoJob old → ClaimsNothing old new → HoldsNoJob new
none_claimed old new h c = ap (λ (s : WorkerSeatOf). jobs_in s.jobs) c.new_is ∙ h

pub none_at_first : (lanes : LanesOf) (seat : WorkerSeatOf) → seat ≡ newcomer lanes → HoldsNoJob seat
none_at_first lanes seat is = ap (λ (s : WorkerSeatOf). jobs_in s.jobs) is ∙ none_in lanes.count
