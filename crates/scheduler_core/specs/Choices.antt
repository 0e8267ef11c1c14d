-- Claimed: what contracts promise to a reader rests on these words.
-- Which of the enabled events comes next.
use Rattle.std.specs.Prelude.{◌≡◌, ◌↔◌, ◌<◌, ◌≤◌, ⊤, ℕ, suc, ◌%◌, if◌then◌else◌, true, false, List, [], ◌∷◌, ◌++◌, length, Option, Some, None, slice_get, filter}
use Rattle.std.specs.List.{Contains, AllPairs}
use Rattle.scheduler_core.specs.declared.event.Event.{Event}
use Rattle.scheduler_core.specs.declared.event.Event.TheVariants.{Admit, Lend, Run, Settle}
use Rattle.scheduler_core.specs.declared.phase.Phase.{Phase}
use Rattle.scheduler_core.specs.declared.phase.Phase.TheVariants.{Idle, Out, Ran, Settled}
use Rattle.scheduler_core.specs.Transactions.{Transaction}
use Rattle.scheduler_core.specs.Phases.{is_open, is_done, phase_of}
use Rattle.scheduler_core.specs.Events.{enabled}

-- the step that an admitted transaction makes next, if it isn't settled
abbrev pub next_step : ℕ → Phase → List Event
next_step number Idle = Lend number ∷ []
next_step number Out = Run number ∷ []
next_step number Ran = Settle number ∷ []
next_step number Settled = []

-- of each, in log order
abbrev pub next_steps : ℕ → List Phase → List Event
next_steps first [] = []
next_steps first (p ∷ phases) = next_step first p ++ next_steps (suc first) phases

-- the enabled events: Admit first, then by transaction number
abbrev pub enabled_events : ℕ → ℕ → List Transaction → List Phase → List Event
enabled_events arena first log phases = filter (enabled arena first log phases) (Admit ∷ next_steps first phases)

-- the one at place n mod count
abbrev pub chosen : ℕ → List Event → Option Event
chosen n [] = None
chosen n (event ∷ events) = slice_get (event ∷ events) (n % length (event ∷ events))

-- the first step, or Admit where there is none
abbrev pub first_step : List Event → Event
first_step [] = Admit
first_step (event ∷ events) = event

-- the step of the least number that is admitted and unsettled, Admit where there is no such number, and none when done
abbrev pub next_event : ℕ → List Transaction → List Phase → Option Event
next_event first log phases = if is_done log phases then None else Some (first_step (next_steps first phases))

-- ---- what these come to

abbrev pub number_of : Event → Option ℕ
number_of Admit = None
number_of (Lend number) = Some number
number_of (Run number) = Some number
number_of (Settle number) = Some number

-- what has no number comes before what has one, and lesser numbers before greater ones
abbrev pub IsBefore : Option ℕ → Option ℕ → Type 0
IsBefore None None = ⊥
IsBefore None (Some n) = ⊤
IsBefore (Some m) None = ⊥
IsBefore (Some m) (Some n) = m < n

-- each enabled event and no other, Admit before all, and the numbers rise: there is one such list
pub record ListsEnabled (arena first : ℕ) (log : List Transaction) (phases : List Phase) (events : List Event)
    : Type 0 where
  pub exact : (event : Event) → Contains events event ↔ (enabled arena first log phases event ≡ true)
  pub ordered : AllPairs (λ a b. IsBefore (number_of a) (number_of b)) events

-- the least number of those admitted and unsettled, None where there is none
abbrev pub IsLeastOpen : ℕ → List Phase → Option ℕ → Type 0
IsLeastOpen first phases None = (number : ℕ) → is_open (phase_of first phases number) ≡ false
IsLeastOpen first phases (Some least) =
    (is_open (phase_of first phases least) ≡ true)
    × ((number : ℕ) → is_open (phase_of first phases number) ≡ true → least ≤ number)

-- the event is enabled and is of the least number, or all is done
abbrev pub IsNextEvent : ℕ → ℕ → List Transaction → List Phase → Option Event → Type 0
IsNextEvent arena first log phases None = is_done log phases ≡ true
IsNextEvent arena first log phases (Some event) =
    (is_done log phases ≡ false) × (enabled arena first log phases event ≡ true)
    × IsLeastOpen first phases (number_of event)

-- the least number to which rows may be lent, None where there is none
abbrev pub IsLeastLend : ℕ → ℕ → List Transaction → List Phase → Option ℕ → Type 0
IsLeastLend arena first log phases None = (number : ℕ) → enabled arena first log phases (Lend number) ≡ false
IsLeastLend arena first log phases (Some least) =
    (enabled arena first log phases (Lend least) ≡ true)
    × ((number : ℕ) → enabled arena first log phases (Lend number) ≡ true → least ≤ number)
