-- Of the code: invariants and steps; no promise rests on these words.
-- What a scheduler keeps to: its rows, its lock tree and its slots follow the core's phases, and what is out is ready.
use Rattle.std.specs.Prelude.{◌≡◌, ◌<◌, ◌≤◌, ◌+◌, ◌-◌, ◌^◌, ⊤, ℕ, true, false, if◌then◌else◌, List, length, map, Option, Some, None, slice_get}
use Rattle.std.specs.FinMap.{get}
use Rattle.coarsen.specs.Subtrees.{Requests}
use Rattle.coarsen.specs.Plans.{IsPlanOver}
use Rattle.coarsen.specs.Clashes.{ModesClash}
use Rattle.meaning.specs.Outcomes.{as_reply}
use Rattle.lock_tree.specs.Locks.{Locks}
use Rattle.interp.specs.Entries.{EntryParts}
use Rattle.row_store.specs.Stock.{Stock}
use Rattle.scheduler_core.specs.declared.phase.Phase.{Phase}
use Rattle.scheduler_core.specs.Transactions.{Transaction, ArePlanned}
use Rattle.scheduler_core.specs.Serial.{serial_reply}
use Rattle.scheduler_core.specs.Phases.{is_out, is_settled, at_number}
use Rattle.scheduler_core.specs.Events.{waiting, OutAreReady}
use Rattle.scheduler_core.specs.Laws.{FitIn}
use Rattle.scheduler_core.specs.Sound.{IsSound}
use Rattle.scheduler.specs.declared.slot.Slot.{Slot}
use Rattle.scheduler.specs.declared.slot.Slot.TheVariants.{Idle, Lent, Held, Ran, Settled}
use Rattle.scheduler.specs.declared.planning.Plans.{Plans}
use Rattle.scheduler.specs.Logs.{plans_for}
use Rattle.scheduler.specs.Schedules.{Work, log_of, phase_in}
use Rattle.scheduler.specs.Jobs.{IsLentAt, IsRunAt}

-- what is kept of a transaction is the serial run's
abbrev pub Fits : Work → ℕ → Slot → Type 0
Fits w place Idle = ⊤
Fits w place Lent = ⊤
Fits w place (Held job) = IsLentAt w place job
Fits w place (Ran job outcome) = IsRunAt w place job outcome
Fits w place (Settled outcome) = serial_reply (log_of w) w.start place ≡ Some (as_reply outcome)

-- the plan of what is out
abbrev pub plan_out : Option Transaction → Option Phase → Option Requests
plan_out None p = None
plan_out (Some t) p = if is_out p then Some t.plan else None

abbrev pub lent_to : Work → List Phase → ℕ → Option Requests
lent_to w phases number = plan_out (at_number w.first (log_of w) number) (at_number w.first phases number)

-- the log fits: each entry and each plan is over the tables, each plan locks what its entry
-- touches, and fits in the room
pub record IsFitting (w : Work) : Type 0 where
  pub over : (place : ℕ) (t : Transaction) → slice_get (log_of w) place ≡ Some t
      → (t.entry.tables ≡ w.tables) × IsPlanOver w.tables t.plan
  pub planned : ArePlanned w.tables (log_of w)
  pub fit : FitIn w.arena (log_of w)
  pub plans : length w.plans ≡ length w.entries
  pub few : w.first + length w.entries ≤ 2 ^ 48

pub record IsScheduled (w : Work) (slots : List Slot) (stock : Stock) (tree : Locks) : Type 0 where
  pub tables : stock.tables ≡ w.tables
  pub sound : IsSound w.tables (log_of w) w.start (map phase_in slots) stock.rows
  pub ready : OutAreReady w.first (log_of w) (map phase_in slots)
  pub kept : (place : ℕ) (slot : Slot) → slice_get slots place ≡ Some slot → Fits w place slot
  pub tree_is : tree ≡ record { arena = w.arena; waiting = waiting w.first (log_of w) (map phase_in slots) }
  pub lent_is : (number : ℕ) → get stock.lent number ≡ lent_to w (map phase_in slots) number

-- these are the plans of the places from one on
abbrev pub ArePlansFrom : List Requests → ℕ → List Requests → Type 0
ArePlansFrom plans from made =
    (place : ℕ) (plan : Requests) → from ≤ place → slice_get made (place - from) ≡ Some plan
    → slice_get plans place ≡ Some plan

-- where `count` are admitted, of which `settled` leading ones are settled: while one of them is not settled, the plan
-- of each that is not, and of the next one, is made
pub record AreMade (plans : List Requests) (settled count from : ℕ) (made : List Requests) : Type 0 where
  pub are_plans : ArePlansFrom plans from made
  pub begun : from ≤ settled
  pub admitted : settled < count → count ≤ from + length made
  pub next : settled < count → count < length plans → count < from + length made

-- what is made of the plans for these entries, as above
abbrev pub AreMadeFor : ℕ → ℕ → List EntryParts → ℕ → ℕ → Plans → Type 0
AreMadeFor threshold arena entries settled count p =
    AreMade (plans_for threshold arena entries) settled count p.from p.made.items

pub record HasPlans (w : Work) (slots : List Slot) (settled from : ℕ) (made : List Requests) : Type 0 where
  pub some : 0 < w.arena
  pub are_made : AreMade w.plans settled (length slots) from made

-- a transaction in this phase, with its own plan, is settled, or is out and in no conflict with the other plan
abbrev pub StandsAside : Option Phase → Option Requests → Requests → Type 0
StandsAside phase own plan =
    is_settled phase ≡ false
    → (is_out phase ≡ true) × ((p : Requests) → own ≡ Some p → ModesClash p plan → ⊥)

-- the first `settled` are settled, and the next is not
pub record AreSettledBefore (slots : List Slot) (settled : ℕ) : Type 0 where
  pub before : (place : ℕ) → place < settled → is_settled (slice_get (map phase_in slots) place) ≡ true
  pub next : is_settled (slice_get (map phase_in slots) settled) ≡ false
  pub within : settled ≤ length slots
