-- Claimed: what contracts promise to a reader rests on these words.
-- A scheduler as contracts see it.
use Rattle.std.specs.Prelude.{◌≡◌, ◌+◌, ℕ, true, List, [], ◌∷◌, map, slice_get, Option, Some, None, refl}
use Rattle.std.specs.Coded.{Coded, code_by, coded×, coded_ℕ, coded_list}
use Rattle.catalogue.specs.Shapes.{TableShape}
use Rattle.values.specs.Database.{Database}
use Rattle.catalogue.specs.contracts.catalogue.Catalogue as catalogue
use Rattle.coarsen.specs.Subtrees.{Requests}
use Rattle.interp.specs.Entries.{EntryParts}
use Rattle.row_store.specs.Stock.{rows_code, plan_code}
use Rattle.interp.specs.contracts.entry.Entry as entries
use Rattle.scheduler_core.specs.declared.event.Event.{Event}
use Rattle.scheduler_core.specs.declared.phase.Phase.{Phase}
use Rattle.scheduler_core.specs.declared.phase.Phase.TheVariants as phase
use Rattle.scheduler_core.specs.Transactions.{Transaction}
use Rattle.scheduler_core.specs.Phases.{is_done}
use Rattle.scheduler_core.specs.Events.{enabled}
use Rattle.scheduler_core.specs.Choices.{next_step}
use Rattle.scheduler.specs.declared.slot.Slot.{Slot}
use Rattle.scheduler.specs.declared.slot.Slot.TheVariants.{Idle, Lent, Held, Ran, Settled}
use Rattle.scheduler.specs.contracts.slot.Slot as slots
use Rattle.scheduler.specs.Logs.{transactions_of}

-- what a scheduler works on: the tables, the room for requests, the number of the first transaction, the entries of the
-- log with their plans, and the rows at the start
pub record Work : Type 0 where
  pub tables : List TableShape
  pub arena : ℕ
  pub first : ℕ
  pub entries : List EntryParts
  pub plans : List Requests
  pub start : Database

-- what a scheduler works on, by its parts
abbrev pub work_of : List TableShape → ℕ → ℕ → List EntryParts → List Requests → Database → Work
work_of tables arena first entries plans start = record {
  tables = tables;
  arena = arena;
  first = first;
  entries = entries;
  plans = plans;
  start = start;
}

-- and what there is of each admitted transaction
pub record Schedule : Type 0 where
  pub work : Work
  pub slots : List Slot

-- the log
abbrev pub log_of : Work → List Transaction
log_of w = transactions_of w.entries w.plans

-- how far a transaction is
abbrev pub phase_in : Slot → Phase
phase_in Idle = phase.Idle
phase_in Lent = phase.Out
phase_in (Held job) = phase.Out
phase_in (Ran job outcome) = phase.Ran
phase_in (Settled outcome) = phase.Settled

-- how far each admitted transaction is
abbrev pub phases_of : Schedule → List Phase
phases_of s = map phase_in s.slots

-- no job is with the caller
abbrev pub KeepsItsJobs : Schedule → Type 0
KeepsItsJobs s = (place : ℕ) → slice_get s.slots place ≡ Some Lent → ⊥

-- an event that may be there, as a list
abbrev pub steps_of : Option Event → List Event
steps_of None = []
steps_of (Some event) = event ∷ []

-- the step that the transaction at a place makes next
abbrev pub next_of : ℕ → Option Slot → List Event
next_of number None = []
next_of number (Some slot) = next_step number (phase_in slot)

abbrev pub next_step_at : Schedule → ℕ → List Event
next_step_at s place = next_of (s.work.first + place) (slice_get s.slots place)

-- an event that is enabled, or none where all is done
abbrev pub IsChoice : ℕ → ℕ → List Transaction → List Phase → Option Event → Type 0
IsChoice arena first log phases None = is_done log phases ≡ true
IsChoice arena first log phases (Some event) = enabled arena first log phases event ≡ true

abbrev pub work_code : Coded Work
work_code = code_by (List TableShape × (ℕ × (ℕ × (List EntryParts × (List Requests × Database)))))
    (coded× catalogue.the_row.coded (coded× coded_ℕ (coded× coded_ℕ
    (coded× (coded_list entries.the_row.coded) (coded× (coded_list plan_code) rows_code)))))
    (λ s. (s.tables, (s.arena, (s.first, (s.entries, (s.plans, s.start))))))
    (λ p. record {
      tables = p.0;
      arena = p.1.0;
      first = p.1.1.0;
      entries = p.1.1.1.0;
      plans = p.1.1.1.1.0;
      start = p.1.1.1.1.1;
    })
    (λ _. refl)

abbrev pub schedule_code : Coded Schedule
schedule_code = code_by (Work × List Slot) (coded× work_code (coded_list slots.the_row.coded))
    (λ s. (s.work, s.slots))
    (λ p. record { work = p.0; slots = p.1 })
    (λ _. refl)
