-- Claimed: what contracts promise to a reader rests on these words.
-- The jobs that a scheduler lends.
use Rattle.std.specs.Prelude.{◌≡◌, ◌+◌, ◌-◌, ℕ, true, Option, Some, None, slice_get, slice_set}
use Rattle.coarsen.specs.Clashes.{ModesClash}
use Rattle.meaning.specs.declared.outcome.Outcome.{Outcome}
use Rattle.meaning.specs.Outcomes.{as_reply}
use Rattle.scheduler.specs.JobRuns.{JobOf, DoneOf, IsDoneOf, transaction_of}
use Rattle.scheduler_core.specs.Transactions.{Transaction}
use Rattle.scheduler_core.specs.Phases.{is_out}
use Rattle.scheduler_core.specs.Sound as core
use Rattle.scheduler.specs.declared.slot.Slot.TheVariants.{Lent}
use Rattle.scheduler.specs.Schedules.{Work, Schedule, log_of, phases_of}

-- the job is of the transaction at a place of the log
pub record IsJobAt (w : Work) (place : ℕ) (job : JobOf) : Type 0 where
  pub no : job.no ≡ w.first + place
  pub tables : job.loan.tables ≡ w.tables
  pub transaction : slice_get (log_of w) place ≡ Some (transaction_of job)

-- and it shows the rows of the serial run at its place, on the row names that its plan locks
pub record IsLentAt (w : Work) (place : ℕ) (job : JobOf) : Type 0 where
  pub job_at : IsJobAt w place job
  pub shows : core.IsLent w.tables (log_of w) w.start place job.loan.rows

-- and it was run: its outcome, and what it shows, are the serial run's
pub record IsRunAt (w : Work) (place : ℕ) (job : JobOf) (outcome : Outcome) : Type 0 where
  pub job_at : IsJobAt w place job
  pub run : core.IsRun w.tables (log_of w) w.start place (as_reply outcome) job.loan.rows

-- the job's plan is in conflict with none that is out
abbrev pub IsApart : Schedule → JobOf → Type 0
IsApart s job =
    (place : ℕ) (t : Transaction) → slice_get (log_of s.work) place ≡ Some t
    → is_out (slice_get (phases_of s) place) ≡ true → ModesClash job.loan.plan t.plan → ⊥

-- a job that is lent, and what it leaves
pub record LendsJob (old : Schedule) (job : JobOf) (new : Schedule) : Type 0 where
  pub lent : IsLentAt old.work (job.no - old.work.first) job
  pub apart : IsApart old job
  pub new_is : new ≡ record old { slots = slice_set old.slots (job.no - old.work.first) Lent }
  pub out : slice_get new.slots (job.no - old.work.first) ≡ Some Lent

-- what lending a job leaves
abbrev pub LendsTo : Schedule → Option JobOf → Schedule → Type 0
LendsTo old None new = new ≡ old
LendsTo old (Some job) new = LendsJob old job new

-- the number of a job, if there is one
abbrev pub number_of_job : Option JobOf → Option ℕ
number_of_job None = None
number_of_job (Some job) = Some job.no

-- a job comes back that was lent and is still out: it is the run of that job, or that job given back
pub record ComesBack (s : Schedule) (done : DoneOf) : Type 0 where
  pub out : slice_get s.slots (done.job.no - s.work.first) ≡ Some Lent
  pub lent : JobOf
  pub was_lent : IsLentAt s.work (done.job.no - s.work.first) lent
  pub comes : IsDoneOf lent done

-- what comes of a job that was lent can be settled
abbrev pub LentJobsComeBack : Type 0
LentJobsComeBack =
    (old new : Schedule) (job : JobOf) (done : DoneOf) → LendsJob old job new → IsDoneOf job done → ComesBack new done
