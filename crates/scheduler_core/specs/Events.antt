-- Claimed: what contracts promise to a reader rests on these words.
-- Which events are enabled, and what each does. (Calvin, SIGMOD 2012: one thread makes the lock requests in log order.)
use Rattle.std.specs.Prelude.{◌≡◌, ℕ, suc, ◌+◌, nat_le, ◌&&◌, if◌then◌else◌, Bool, true, false, List, [], ◌∷◌, ◌++◌, length, Option, Some, None, slice_get}
use Rattle.lock_tree.specs.Locks.{Waiting, used}
use Rattle.lock_tree.specs.Ready.{ready}
use Rattle.scheduler_core.specs.declared.event.Event.{Event}
use Rattle.scheduler_core.specs.declared.event.Event.TheVariants.{Admit, Lend, Run, Settle}
use Rattle.scheduler_core.specs.declared.event.StepAnswer.{StepAnswer}
use Rattle.scheduler_core.specs.declared.event.StepAnswer.TheVariants.{Made, Refused, NoMemory}
use Rattle.scheduler_core.specs.declared.phase.Phase.{Phase}
use Rattle.scheduler_core.specs.declared.phase.Phase.TheVariants.{Idle, Out, Ran, Settled}
use Rattle.scheduler_core.specs.Transactions.{Transaction}
use Rattle.scheduler_core.specs.Phases.{is_idle, is_lent, was_run, is_out, is_settled, phase_of, with_number}

-- the admitted and unsettled transactions in log order, each with its plan, and marked where it is out
abbrev pub waiting : ℕ → List Transaction → List Phase → List Waiting
waiting first [] phases = []
waiting first (t ∷ log) [] = []
waiting first (t ∷ log) (p ∷ phases) =
    if is_settled (Some p) then waiting (suc first) log phases
    else record { no = first; plan = t.plan; marked = is_out (Some p) } ∷ waiting (suc first) log phases

-- each transaction that is out is ready
abbrev pub OutAreReady : ℕ → List Transaction → List Phase → Type 0
OutAreReady first log phases =
    (place : ℕ) → is_out (slice_get phases place) ≡ true → ready (waiting first log phases) (first + place) ≡ true

-- there is a next transaction, and room for its plan beside those that wait
abbrev pub has_room : ℕ → List Waiting → Option Transaction → Bool
has_room arena waits None = false
has_room arena waits (Some t) = nat_le (used waits + length t.plan) arena

-- Admit: not all are admitted, and there is room for the next one's plan. Lend: admitted, unsettled, not out, and
-- ready. Run: out and not run. Settle: run and not settled
abbrev pub enabled : ℕ → ℕ → List Transaction → List Phase → Event → Bool
enabled arena first log phases Admit = has_room arena (waiting first log phases) (slice_get log (length phases))
enabled arena first log phases (Lend number) =
    is_idle (phase_of first phases number) && ready (waiting first log phases) number
enabled arena first log phases (Run number) = is_lent (phase_of first phases number)
enabled arena first log phases (Settle number) = was_run (phase_of first phases number)

-- what an event does
abbrev pub step : ℕ → List Phase → Event → List Phase
step first phases Admit = phases ++ Idle ∷ []
step first phases (Lend number) = with_number first phases number Out
step first phases (Run number) = with_number first phases number Ran
step first phases (Settle number) = with_number first phases number Settled

-- what an answer to one event says
abbrev pub Answers : ℕ → ℕ → List Transaction → List Phase → Event → StepAnswer → List Phase → Type 0
Answers arena first log old event Made new = (enabled arena first log old event ≡ true) × (new ≡ step first old event)
Answers arena first log old event Refused new = (enabled arena first log old event ≡ false) × (new ≡ old)
Answers arena first log old event NoMemory new = new ≡ old

-- one answer an event
abbrev pub Played : ℕ → ℕ → List Transaction → List Phase → List Event → List StepAnswer → List Phase → Type 0
Played arena first log old [] [] new = new ≡ old
Played arena first log old (event ∷ events) (answer ∷ answers) new =
    (mid : List Phase) × Answers arena first log old event answer mid × Played arena first log mid events answers new
Played arena first log old [] (answer ∷ answers) new = ⊥
Played arena first log old (event ∷ events) [] new = ⊥
