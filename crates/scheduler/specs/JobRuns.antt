-- Claimed: what contracts promise to a reader rests on these words.
-- Jobs, and what running one comes to.
use Rattle.std.specs.Prelude.{◌≡◌, ℕ, true, Option, Some, None, refl}
use Rattle.std.specs.Coded.{Coded, code_by, coded×, coded_ℕ, coded_option}
use Rattle.values.specs.declared.name.RowName.{RowName}
use Rattle.proclang_types.specs.declared.right.Right.{Right}
use Rattle.coarsen.specs.Clashes.{locks_row}
use Rattle.meaning.specs.Frame.{touches}
use Rattle.meaning.specs.declared.outcome.Outcome.{Outcome}
use Rattle.meaning.specs.Outcomes.{as_reply}
use Rattle.meaning.specs.contracts.outcome.Outcome as outcomes
use Rattle.interp.specs.Entries.{EntryParts, entry_shape}
use Rattle.interp.specs.contracts.entry.Entry as entries
use Rattle.scheduler_core.specs.Transactions.{Transaction}
use Rattle.scheduler_core.specs.Sound.{IsRunOf}
use Rattle.row_store.specs.Stock.{Lent, lent_code}

-- a transaction's number, its entry and the rows that were lent to it
pub record JobOf : Type 0 where
  pub no : ℕ
  pub entry : EntryParts
  pub loan : Lent

-- a job that came back: with an outcome, or as it was where it could not be run
pub record DoneOf : Type 0 where
  pub job : JobOf
  pub outcome : Option Outcome

-- the loan's plan locks each row name that the entry may touch, for at least that right
abbrev pub LocksTouched : EntryParts → Lent → Type 0
LocksTouched entry loan =
    (name : RowName) (right : Right) → touches (entry_shape entry) name right ≡ true
    → locks_row loan.tables loan.plan name right ≡ true

-- the transaction that a job is of
abbrev pub transaction_of : JobOf → Transaction
transaction_of job = record { entry = entry_shape job.entry; plan = job.loan.plan }

-- what comes of a job: the job as it was lent, or the same job with its outcome, its loan
-- showing the rows that it leaves
abbrev pub ComesOf : JobOf → Option Outcome → JobOf → Type 0
ComesOf job None back = back ≡ job
ComesOf job (Some outcome) back =
    (back ≡ record job { loan = record (job.loan) { rows = back.loan.rows } })
    × IsRunOf job.loan.tables (transaction_of job) job.loan.rows (as_reply outcome) back.loan.rows

-- what comes of a job: the job as it was lent, or the same job with its outcome, whose loan shows the rows that it
-- leaves
abbrev pub IsDoneOf : JobOf → DoneOf → Type 0
IsDoneOf job done = ComesOf job done.outcome done.job

abbrev pub job_code : Coded JobOf
job_code = code_by (ℕ × (EntryParts × Lent)) (coded× coded_ℕ (coded× entries.the_row.coded lent_code))
    (λ j. (j.no, (j.entry, j.loan)))
    (λ p. record { no = p.0; entry = p.1.0; loan = p.1.1 })
    (λ _. refl)

abbrev pub done_code : Coded DoneOf
done_code = code_by (JobOf × Option Outcome) (coded× job_code (coded_option outcomes.the_row.coded))
    (λ d. (d.job, d.outcome))
    (λ p. record { job = p.0; outcome = p.1 })
    (λ _. refl)
