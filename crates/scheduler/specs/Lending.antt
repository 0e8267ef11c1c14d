-- Of the code: invariants and steps; no promise rests on these words.
-- What lending asks of a store, and the job that it gives.
use Rattle.std.specs.Prelude.{◌≡◌, ℕ, Some, None}
use Rattle.std.specs.FinMap.{get}
use Rattle.coarsen.specs.Subtrees.{Requests}
use Rattle.coarsen.specs.Plans.{IsPlanOver}
use Rattle.coarsen.specs.Clashes.{ModesClash}
use Rattle.interp.specs.Entries.{EntryParts}
use Rattle.row_store.specs.Stock.{Stock, IsLoanFrom}
use Rattle.scheduler.specs.JobRuns.{JobOf}

-- the plan is over the store's tables, nothing is lent under the number, and no lent plan is in conflict with it
pub record CanBeLent (stock : Stock) (number : ℕ) (plan : Requests) : Type 0 where
  pub over : IsPlanOver stock.tables plan
  pub unlent : get stock.lent number ≡ None
  pub apart : (other : ℕ) (requests : Requests) → get stock.lent other ≡ Some requests → ModesClash requests plan → ⊥

-- the job of a transaction: its number, its entry, and a loan of the rows that its plan locks
pub record IsJobFor (stock : Stock) (number : ℕ) (entry : EntryParts) (plan : Requests) (job : JobOf) : Type 0 where
  pub numbered : job.no ≡ number
  pub of_entry : job.entry ≡ entry
  pub loan : IsLoanFrom stock plan job.loan
