-- Claimed: what contracts promise to a reader rests on these words.
-- Which transactions are ready.
use Rattle.std.specs.Prelude.{◌≡◌, ◌≤◌, ℕ, Bool, true, false, List, Option, Some, None}
use Rattle.std.specs.List.{list_all, Contains}
use Rattle.coarsen.specs.Subtrees.{Requests}
use Rattle.lock_tree.specs.Locks.{Waiting, plan_of}
use Rattle.lock_tree.specs.Queues.{queue, granted, has_number}

-- each request of the plan is granted to the transaction
abbrev pub all_granted : List Waiting → ℕ → Option Requests → Bool
all_granted waiting number None = false
all_granted waiting number (Some plan) = list_all (λ e. has_number number (granted (queue e.0 waiting))) plan

-- the transaction is there, and each of its requests is granted
abbrev pub ready : List Waiting → ℕ → Bool
ready waiting number = all_granted waiting number (plan_of waiting number)

-- a transaction that is ready and not marked
pub record IsOpen (waiting : List Waiting) (w : Waiting) : Type 0 where
  pub there : Contains waiting w
  pub unmarked : w.marked ≡ false
  pub is_ready : ready waiting w.no ≡ true

-- the least number of those that are ready and not marked, None where there is none
abbrev pub IsNextReady : List Waiting → Option ℕ → Type 0
IsNextReady waiting None = (w : Waiting) → IsOpen waiting w → ⊥
IsNextReady waiting (Some number) =
    ((w : Waiting) × IsOpen waiting w × (w.no ≡ number))
    × ((w : Waiting) → IsOpen waiting w → number ≤ w.no)
