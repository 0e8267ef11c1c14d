-- Claimed: what contracts promise to a reader rests on these words.
-- A scheduler as a plain machine: rows, and what each admitted transaction has in hand. It knows nothing of a serial
-- run.
use Rattle.std.specs.Prelude.{◌≡◌, ◌⊎◌, ℕ, true, false, List, [], ◌∷◌, ◌++◌, map, Some}
use Rattle.std.specs.FinMap.{get}
use Rattle.values.specs.declared.name.RowName.{RowName}
use Rattle.catalogue.specs.Shapes.{TableShape}
use Rattle.values.specs.Database.{Database}
use Rattle.proclang_types.specs.declared.right.Right.TheVariants.{Write}
use Rattle.coarsen.specs.Clashes.{locks_row}
use Rattle.meaning.specs.Entries.{Reply}
use Rattle.scheduler_core.specs.declared.event.Event.{Event}
use Rattle.scheduler_core.specs.declared.event.Event.TheVariants.{Admit, Lend, Run, Settle}
use Rattle.scheduler_core.specs.declared.phase.Phase.{Phase}
use Rattle.scheduler_core.specs.declared.phase.Phase.TheVariants as phase
use Rattle.scheduler_core.specs.Transactions.{Transaction, AgreeOnLocked}
use Rattle.scheduler_core.specs.Phases.{at_number, with_number}
use Rattle.scheduler_core.specs.Events.{enabled}
use Rattle.scheduler_core.specs.Sound.{IsRunOf}

-- what is in hand of a transaction: the rows that its job shows, then those after its run and the reply, then the reply
pub data Stage : Type 0 where
  idle : Stage
  lent : Database → Stage
  ran : Reply → Database → Stage
  settled : Reply → Stage

-- a scheduler as a plain machine of rows and jobs, which knows nothing of a serial run
pub record Machine : Type 0 where
  pub rows : Database
  pub stages : List Stage

abbrev pub phase_in : Stage → Phase
phase_in idle = phase.Idle
phase_in (lent shown) = phase.Out
phase_in (ran reply after) = phase.Ran
phase_in (settled reply) = phase.Settled

abbrev pub phases_of : List Stage → List Phase
phases_of stages = map phase_in stages

abbrev pub at_start : Database → Machine
at_start start = record { rows = start; stages = [] }

module _ (tables : List TableShape) (first : ℕ) (log : List Transaction) where
  -- the job shows the rows as they are, on the row names that its plan locks
  pub record Lends (old : Machine) (number : ℕ) (new : Machine) : Type 0 where
    pub transaction : Transaction
    pub numbered : at_number first log number ≡ Some transaction
    pub shown : Database
    pub shows : AgreeOnLocked tables transaction.plan shown old.rows
    pub new_is : new ≡ record old { stages = with_number first old.stages number (lent shown) }

  -- the job is run on what it shows
  pub record Executes (old : Machine) (number : ℕ) (new : Machine) : Type 0 where
    pub transaction : Transaction
    pub numbered : at_number first log number ≡ Some transaction
    pub shown : Database
    pub has : at_number first old.stages number ≡ Some (lent shown)
    pub reply : Reply
    pub after : Database
    pub runs : IsRunOf tables transaction shown reply after
    pub new_is : new ≡ record old { stages = with_number first old.stages number (ran reply after) }

  -- the row names that the plan locks to write become what the job shows, the others stay, and the reply is kept
  pub record Settles (old : Machine) (number : ℕ) (new : Machine) : Type 0 where
    pub transaction : Transaction
    pub numbered : at_number first log number ≡ Some transaction
    pub reply : Reply
    pub after : Database
    pub has : at_number first old.stages number ≡ Some (ran reply after)
    pub stages : new.stages ≡ with_number first old.stages number (settled reply)
    pub written : (name : RowName) → locks_row tables transaction.plan name Write ≡ true
        → get new.rows name ≡ get after name
    pub others : (name : RowName) → locks_row tables transaction.plan name Write ≡ false
        → get new.rows name ≡ get old.rows name

  -- a job that was not run is given back: its transaction is as before it was lent its rows
  pub record TakesBack (old : Machine) (number : ℕ) (new : Machine) : Type 0 where
    pub shown : Database
    pub has : at_number first old.stages number ≡ Some (lent shown)
    pub new_is : new ≡ record old { stages = with_number first old.stages number idle }

  -- what an event does
  abbrev pub Does : Machine → Event → Machine → Type 0
  Does old Admit new = new ≡ record old { stages = old.stages ++ idle ∷ [] }
  Does old (Lend number) new = Lends old number new
  Does old (Run number) new = Executes old number new
  Does old (Settle number) new = Settles old number new

-- an event, or a job given back
pub data Move : Type 0 where
  makes : Event → Move
  takes_back : ℕ → Move

module _ (tables : List TableShape) (arena first : ℕ) (log : List Transaction) where
  -- an event is made only where it is enabled
  abbrev pub Moves : Machine → Move → Machine → Type 0
  Moves old (makes event) new =
      (enabled arena first log (phases_of old.stages) event ≡ true) × Does tables first log old event new
  Moves old (takes_back number) new = TakesBack tables first log old number new

  -- any list of moves, each of which is made or changes nothing
  abbrev pub Runs : Machine → List Move → Machine → Type 0
  Runs old [] new = new ≡ old
  Runs old (move ∷ moves) new = (mid : Machine) × (Moves old move mid ⊎ (mid ≡ old)) × Runs mid moves new
