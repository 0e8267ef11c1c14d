-- Claimed: what contracts promise to a reader rests on these words.
-- What a lock tree holds: transactions with their plans, in the order in which they were enqueued.
use Rattle.std.specs.Prelude.{◌<◌, ◌+◌, ℕ, Bool, ◌==◌, if◌then◌else◌, List, [], ◌∷◌, length, Option, Some, None, ⊤}
use Rattle.coarsen.specs.Subtrees.{Requests}

-- a transaction that is enqueued and not released: its number, its plan, and whether it is marked
pub record Waiting : Type 0 where
  pub no : ℕ
  pub plan : Requests
  pub marked : Bool

-- room for `arena` requests, and the transactions in order
pub record Locks : Type 0 where
  pub arena : ℕ
  pub waiting : List Waiting

-- how many requests there are
abbrev pub used : List Waiting → ℕ
used [] = 0
used (w ∷ ws) = length w.plan + used ws

-- the plan of a transaction
abbrev pub plan_of : List Waiting → ℕ → Option Requests
plan_of [] number = None
plan_of (w ∷ ws) number = if w.no == number then Some w.plan else plan_of ws number

-- all but one transaction
abbrev pub without : ℕ → List Waiting → List Waiting
without number [] = []
without number (w ∷ ws) = if w.no == number then without number ws else w ∷ without number ws

-- the same transactions, with one of them marked or not
abbrev pub with_mark : ℕ → Bool → List Waiting → List Waiting
with_mark number mark [] = []
with_mark number mark (w ∷ ws) = (if w.no == number then record w { marked = mark } else w) ∷ with_mark number mark ws

-- later transactions have greater numbers
abbrev pub AreAbove : ℕ → List Waiting → Type 0
AreAbove number [] = ⊤
AreAbove number (w ∷ ws) = (number < w.no) × AreAbove number ws

-- the numbers rise
abbrev pub IsRising : List Waiting → Type 0
IsRising [] = ⊤
IsRising (w ∷ ws) = AreAbove w.no ws × IsRising ws
