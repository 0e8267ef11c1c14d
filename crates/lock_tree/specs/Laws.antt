-- Claimed: what contracts promise to a reader rests on these words.
-- Laws of queues and of readiness.
use Rattle.std.specs.Prelude.{◌≡◌, ◌≢◌, ◌<◌, ℕ, Bool, true, false, List, [], ◌∷◌, ◌++◌, Some}
use Rattle.std.specs.List.{Contains, AllPairs}
use Rattle.modes.specs.declared.mode.Mode.{Mode}
use Rattle.modes.specs.Modes.{are_compatible}
use Rattle.coarsen.specs.Subtrees.{Requests}
use Rattle.coarsen.specs.Plans.{IsWellFormed}
use Rattle.coarsen.specs.Clashes.{ModesClash}
use Rattle.lock_tree.specs.Locks.{Waiting, plan_of, without, with_mark, IsRising}
use Rattle.lock_tree.specs.Enqueues.{AreBelow}
use Rattle.lock_tree.specs.Queues.{Queue, granted}
use Rattle.lock_tree.specs.Ready.{ready}

-- each two of these go together
abbrev pub AreCompatible : Queue → Type 0
AreCompatible queue = AllPairs (λ (a : ℕ × Mode) (b : ℕ × Mode). are_compatible a.1 b.1 ≡ true) queue

-- what is granted of a queue is a front of it, its members are pairwise compatible, and one more would not be
pub record GrantsLongestFront : Type 0 where
  pub front : (queue : Queue) → (rest : Queue) × (queue ≡ granted queue ++ rest)
  pub compatible : (queue : Queue) → AreCompatible (granted queue)
  pub longest : (queue : Queue) (next : ℕ × Mode) (rest : Queue) → queue ≡ granted queue ++ next ∷ rest
      → (q : ℕ × Mode) × Contains (granted queue) q × (are_compatible q.1 next.1 ≡ false)

-- a ready transaction is in no conflict with any that was enqueued before it and is not released
abbrev pub ReadyApart : Type 0
ReadyApart =
    (waiting : List Waiting) → IsRising waiting → (i k : ℕ) → i < k → (p q : Requests)
    → plan_of waiting i ≡ Some p → plan_of waiting k ≡ Some q → IsWellFormed p → IsWellFormed q → ready waiting k ≡ true
    → ModesClash p q → ⊥

-- the first of all is ready
abbrev pub FirstReady : Type 0
FirstReady = (w : Waiting) (ws : List Waiting) → ready (w ∷ ws) w.no ≡ true

-- if all that wait are ready, a transaction that is put last, and whose plan is in conflict with none of theirs, is
-- ready
abbrev pub ReadyBeside : Type 0
ReadyBeside =
    (waiting : List Waiting) → IsRising waiting → (number : ℕ) → AreBelow number waiting → (plan : Requests)
    → IsWellFormed plan
    → ((other : ℕ) (p : Requests) → plan_of waiting other ≡ Some p
    → (ready waiting other ≡ true) × (ModesClash p plan → ⊥))
    → ready (waiting ++ record { no = number; plan = plan; marked = false } ∷ []) number ≡ true

-- a ready transaction stays ready until it is released: when one more is enqueued, when any is marked or unmarked, and
-- when another is released
pub record ReadyStays : Type 0 where
  pub enqueued : (waiting : List Waiting) (more : Waiting) (number : ℕ) → ready waiting number ≡ true
      → ready (waiting ++ more ∷ []) number ≡ true
  pub marked : (waiting : List Waiting) (other : ℕ) (mark : Bool) (number : ℕ) → ready waiting number ≡ true
      → ready (with_mark other mark waiting) number ≡ true
  pub released : (waiting : List Waiting) (other number : ℕ) → other ≢ number → ready waiting number ≡ true
      → ready (without other waiting) number ≡ true
