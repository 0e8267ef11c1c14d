-- Claimed: what contracts promise to a reader rests on these words.
-- Transactions: entries with the lock requests that are made for them.
use Rattle.std.specs.Prelude.{◌≡◌, ℕ, Bool, true, false, List, map, Option, Some, None, slice_get}
use Rattle.std.specs.FinMap.{get}
use Rattle.values.specs.declared.name.RowName.{RowName}
use Rattle.catalogue.specs.Shapes.{TableShape}
use Rattle.values.specs.Database.{Database}
use Rattle.proclang_types.specs.declared.right.Right.{Right}
use Rattle.proclang_types.specs.declared.right.Right.TheVariants.{Read}
use Rattle.coarsen.specs.Subtrees.{Requests}
use Rattle.coarsen.specs.Plans.{IsWellFormed}
use Rattle.coarsen.specs.Clashes.{locks_row}
use Rattle.meaning.specs.Entries.{EntryShape}
use Rattle.meaning.specs.Frame.{touches}

-- a transaction of a log: an entry, and its plan
pub record Transaction : Type 0 where
  pub entry : EntryShape
  pub plan : Requests

abbrev pub entries_of : List Transaction → List EntryShape
entries_of log = map (λ t. t.entry) log

-- the plan is one, and it locks each row name that the entry may touch, for the same right
pub record IsPlanned (tables : List TableShape) (t : Transaction) : Type 0 where
  pub sound : IsWellFormed t.plan
  pub locks : (name : RowName) (right : Right) → touches t.entry name right ≡ true
      → locks_row tables t.plan name right ≡ true

-- each transaction of a log
abbrev pub ArePlanned : List TableShape → List Transaction → Type 0
ArePlanned tables log = (place : ℕ) (t : Transaction) → slice_get log place ≡ Some t → IsPlanned tables t

-- two databases have the same row, or none, at each row name that a plan locks
abbrev pub AgreeOnLocked : List TableShape → Requests → Database → Database → Type 0
AgreeOnLocked tables plan a b = (name : RowName) → locks_row tables plan name Read ≡ true → get a name ≡ get b name

-- whether the transaction at a place of the log locks the row name for that right
abbrev pub locks_of : List TableShape → Option Transaction → RowName → Right → Bool
locks_of tables None name right = false
locks_of tables (Some t) name right = locks_row tables t.plan name right

-- the transaction at a place of the log locks a row name for a right
abbrev pub locks_at : List TableShape → List Transaction → ℕ → RowName → Right → Bool
locks_at tables log place name right = locks_of tables (slice_get log place) name right
