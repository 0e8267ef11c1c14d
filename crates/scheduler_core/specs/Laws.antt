-- Claimed: what contracts promise to a reader rests on these words.
-- The laws of the core.
use Rattle.std.specs.Prelude.{◌≡◌, ◌≢◌, ◌↔◌, ◌<◌, ◌≤◌, ℕ, suc, ◌+◌, ◌*◌, ◌==◌, ◌&&◌, if◌then◌else◌, true, false, List, [], ◌∷◌, ◌++◌, length, map, take, Option, Some, None, slice_get, slice_set, count_by}
use Rattle.std.specs.List.{Contains}
use Rattle.std.specs.FinMap.{get}
use Rattle.values.specs.declared.name.RowName.{RowName}
use Rattle.catalogue.specs.Shapes.{TableShape}
use Rattle.values.specs.Database.{Database}
use Rattle.proclang_types.specs.declared.right.Right.TheVariants.{Write}
use Rattle.coarsen.specs.Subtrees.{Requests}
use Rattle.coarsen.specs.Clashes.{ModesClash, locks_row}
use Rattle.meaning.specs.Entries.{Reply, meaning}
use Rattle.meaning.specs.Serial.{serial_end, serial_replies}
use Rattle.lock_tree.specs.Locks.{plan_of, used, without, with_mark, IsRising}
use Rattle.lock_tree.specs.Ready.{ready, IsNextReady}
use Rattle.lock_tree.specs.Enqueues.{AreBelow}
use Rattle.scheduler_core.specs.declared.event.Event.{Event}
use Rattle.scheduler_core.specs.declared.event.Event.TheVariants.{Admit, Lend, Run, Settle}
use Rattle.scheduler_core.specs.declared.event.StepAnswer.{StepAnswer}
use Rattle.scheduler_core.specs.declared.event.StepAnswer.TheVariants.{NoMemory}
use Rattle.scheduler_core.specs.declared.phase.Phase.{Phase}
use Rattle.scheduler_core.specs.declared.phase.Phase.TheVariants.{Idle, Out, Ran, Settled}
use Rattle.scheduler_core.specs.Transactions.{Transaction, entries_of, IsPlanned, ArePlanned, AgreeOnLocked}
use Rattle.scheduler_core.specs.Serial.{serial_rows, serial_reply, IsByPlaces}
use Rattle.scheduler_core.specs.Phases.{is_idle, is_lent, was_run, is_out, is_settled, at_number, phase_of, is_done, progress, is_made}
use Rattle.scheduler_core.specs.Events.{waiting, enabled, step, OutAreReady, Played}
use Rattle.scheduler_core.specs.Choices.{next_step, next_steps, first_step, enabled_events, chosen, next_event, ListsEnabled, IsNextEvent, IsLeastLend}
use Rattle.scheduler_core.specs.Sound.{IsSound, IsLent, IsRun, IsRunOf}
use Rattle.scheduler_core.specs.Machine.{Machine, Move, lent, settled, phases_of, at_start, TakesBack, Does, Runs}

-- the serial run by places is the serial run: each transaction is run on the rows that the one before it left
abbrev pub SerialRunByPlaces : Type 0
SerialRunByPlaces = (log : List Transaction) (start : Database) → IsByPlaces log start

-- ---- every order of events

pub record IsSerial (tables : List TableShape) (log : List Transaction) (start : Database) (now : Machine)
    : Type 0 where
  -- each reply that is kept is the serial run's
  pub replies : (place : ℕ) (reply : Reply) → slice_get now.stages place ≡ Some (settled reply)
      → serial_reply log start place ≡ Some reply
  -- each job shows, as it is lent, the rows of the serial run on the row names that its plan locks
  pub jobs : (place : ℕ) (shown : Database) → slice_get now.stages place ≡ Some (lent shown)
      → IsLent tables log start place shown
  -- no two plans that are out are in conflict
  pub apart : (i k : ℕ) (t u : Transaction) → i ≢ k → slice_get log i ≡ Some t → slice_get log k ≡ Some u
      → is_out (slice_get (phases_of now.stages) i) ≡ true → is_out (slice_get (phases_of now.stages) k) ≡ true
      → ModesClash t.plan u.plan → ⊥
  -- once all are settled, the rows and the replies, in log order, are the serial run's
  pub end : is_done log (phases_of now.stages) ≡ true → now.rows ≡ serial_end (entries_of log) start
  pub all_replies : is_done log (phases_of now.stages) ≡ true
      → now.stages ≡ map settled (serial_replies (entries_of log) start)

-- each reply that is kept is the serial run's, each job shows the rows of the serial run as it is lent, no two plans
-- that are out are in conflict, and once all are settled rows and replies are the serial run's
abbrev pub EveryRunIsSerial : Type 0
EveryRunIsSerial =
    (tables : List TableShape) (arena first : ℕ) (log : List Transaction) (start : Database) (moves : List Move)
    (now : Machine)
    → ArePlanned tables log → Runs tables arena first log (at_start start) moves now → IsSerial tables log start now

-- in each machine that a run reaches, every enabled event can be made
abbrev pub EnabledCanBeMade : Type 0
EnabledCanBeMade =
    (tables : List TableShape) (arena first : ℕ) (log : List Transaction) (start : Database) (moves : List Move)
    (now : Machine)
    → ArePlanned tables log → Runs tables arena first log (at_start start) moves now
    → (event : Event) → enabled arena first log (phases_of now.stages) event ≡ true
    → (new : Machine) × Does tables first log now event new

-- an event does in the machine to the phases what its step says
abbrev pub MachineFollowsSteps : Type 0
MachineFollowsSteps =
    (tables : List TableShape) (first : ℕ) (log : List Transaction) (old new : Machine) (event : Event)
    → Does tables first log old event new → phases_of new.stages ≡ step first (phases_of old.stages) event

-- the run on the rows that a job shows, as if there were no others, is the run of the job
abbrev pub RunOnShownRows : Type 0
RunOnShownRows =
    (tables : List TableShape) (t : Transaction) (shown after : Database) → IsPlanned tables t
    → AgreeOnLocked tables t.plan after (meaning t.entry shown).1
    → IsRunOf tables t shown (meaning t.entry shown).0 after

-- ---- one event after the other, on rows that represent others

pub record StaysSound (tables : List TableShape) (first : ℕ) (log : List Transaction) (start : Database) : Type 0 where
  pub starts : IsSound tables log start [] start
  pub admits : (phases : List Phase) (rows : Database) → IsSound tables log start phases rows
      → length phases < length log → IsSound tables log start (phases ++ Idle ∷ []) rows
  pub lends : (phases : List Phase) (rows : Database) (place : ℕ) → IsSound tables log start phases rows
      → slice_get phases place ≡ Some Idle → ready (waiting first log phases) (first + place) ≡ true
      → IsSound tables log start (slice_set phases place Out) rows
  -- the rows on what a ready transaction's plan locks are those of the serial run
  pub lent_rows : (phases : List Phase) (rows : Database) (place : ℕ) (t : Transaction) (shown : Database)
      → IsSound tables log start phases rows
      → slice_get phases place ≡ Some Idle → ready (waiting first log phases) (first + place) ≡ true
      → slice_get log place ≡ Some t → AgreeOnLocked tables t.plan shown rows → IsLent tables log start place shown
  -- of a ready transaction, and one that is out: their plans are not in conflict
  pub lends_apart : (phases : List Phase) (rows : Database) (place other : ℕ) (t u : Transaction)
      → IsSound tables log start phases rows
      → slice_get phases place ≡ Some Idle → ready (waiting first log phases) (first + place) ≡ true
      → is_out (slice_get phases other) ≡ true
      → slice_get log place ≡ Some t → slice_get log other ≡ Some u → ModesClash t.plan u.plan → ⊥
  -- while a transaction is out, the rows on what its plan locks stay so
  pub out_rows : (phases : List Phase) (rows : Database) (place : ℕ) (t : Transaction)
      → IsSound tables log start phases rows
      → is_out (slice_get phases place) ≡ true → slice_get log place ≡ Some t
      → AgreeOnLocked tables t.plan rows (serial_rows log start place)
  pub runs : (phases : List Phase) (rows : Database) (place : ℕ) → IsSound tables log start phases rows
      → slice_get phases place ≡ Some Out → IsSound tables log start (slice_set phases place Ran) rows
  -- the run of a job that shows the rows of the serial run is what the serial run has there
  pub run_rows : (place : ℕ) (t : Transaction) (shown : Database) (reply : Reply) (after : Database)
      → slice_get log place ≡ Some t
      → IsLent tables log start place shown → IsRunOf tables t shown reply after
      → IsRun tables log start place reply after
  pub takes_back : (phases : List Phase) (rows : Database) (place : ℕ) → IsSound tables log start phases rows
      → is_out (slice_get phases place) ≡ true → IsSound tables log start (slice_set phases place Idle) rows
  pub settles : (phases : List Phase) (rows new : Database) (place : ℕ) (t : Transaction) (reply : Reply)
      (after : Database)
      → IsSound tables log start phases rows → is_out (slice_get phases place) ≡ true → slice_get log place ≡ Some t
      → IsRun tables log start place reply after
      → ((name : RowName) → locks_row tables t.plan name Write ≡ true → get new name ≡ get after name)
      → ((name : RowName) → locks_row tables t.plan name Write ≡ false → get new name ≡ get rows name)
      → IsSound tables log start (slice_set phases place Settled) new
  -- only what the rows are counts
  pub same_rows : (phases : List Phase) (rows new : Database) → IsSound tables log start phases rows
      → ((name : RowName) → get new name ≡ get rows name) → IsSound tables log start phases new
  pub outs_apart : (phases : List Phase) (rows : Database) (i k : ℕ) (t u : Transaction)
      → IsSound tables log start phases rows → i ≢ k
      → is_out (slice_get phases i) ≡ true → is_out (slice_get phases k) ≡ true
      → slice_get log i ≡ Some t → slice_get log k ≡ Some u → ModesClash t.plan u.plan → ⊥
  pub ends : (phases : List Phase) (rows : Database) → IsSound tables log start phases rows → is_done log phases ≡ true
      → rows ≡ serial_end (entries_of log) start

-- what `IsSound` says of the rows is so at the start and stays so, event by event; while it is so, the rows on what the
-- plan of a ready transaction locks, or of one that is out, are those of the serial run, and no two plans that are out
-- are in conflict
abbrev pub RowsAreSerial : Type 0
RowsAreSerial =
    (tables : List TableShape) (first : ℕ) (log : List Transaction) (start : Database) → ArePlanned tables log
    → StaysSound tables first log start

-- ---- what is out is ready

-- while each that is out is ready, that stays so at each step
pub record StaysReady (first : ℕ) (log : List Transaction) : Type 0 where
  pub starts : OutAreReady first log []
  pub admits : (phases : List Phase) (t : Transaction) → slice_get log (length phases) ≡ Some t
      → OutAreReady first log phases → OutAreReady first log (phases ++ Idle ∷ [])
  pub lends : (phases : List Phase) (place : ℕ) → slice_get phases place ≡ Some Idle
      → ready (waiting first log phases) (first + place) ≡ true
      → OutAreReady first log phases → OutAreReady first log (slice_set phases place Out)
  pub runs : (phases : List Phase) (place : ℕ) → slice_get phases place ≡ Some Out
      → OutAreReady first log phases → OutAreReady first log (slice_set phases place Ran)
  pub takes_back : (phases : List Phase) (place : ℕ) → is_out (slice_get phases place) ≡ true
      → OutAreReady first log phases → OutAreReady first log (slice_set phases place Idle)
  -- and a transaction whose job is given back is ready, too
  pub gives_back : (phases : List Phase) (place : ℕ) → is_out (slice_get phases place) ≡ true
      → OutAreReady first log phases → ready (waiting first log (slice_set phases place Idle)) (first + place) ≡ true
  pub settles : (phases : List Phase) (place : ℕ) → is_out (slice_get phases place) ≡ true
      → OutAreReady first log phases → OutAreReady first log (slice_set phases place Settled)

-- a job that is out and not run can be given back, and its transaction can then be lent its rows again
pub record GivenBackCanBeLent : Type 0 where
  -- a job that is out and not run can be given back
  pub can_be : (tables : List TableShape) (first : ℕ) (log : List Transaction) (now : Machine) (number : ℕ)
      (shown : Database)
      → at_number first now.stages number ≡ Some (lent shown)
      → (new : Machine) × TakesBack tables first log now number new
  -- and whatever the order of events, its transaction can then be lent its rows again
  pub lent_again : (tables : List TableShape) (arena first : ℕ) (log : List Transaction) (start : Database)
      (moves : List Move) (now : Machine) (number : ℕ) (new : Machine)
      → Runs tables arena first log (at_start start) moves now → TakesBack tables first log now number new
      → enabled arena first log (phases_of new.stages) (Lend number) ≡ true

-- ---- the transactions in the lock tree

pub record FollowsPhases (first : ℕ) (log : List Transaction) : Type 0 where
  pub starts : waiting first log [] ≡ []
  pub admits : (phases : List Phase) (t : Transaction) → slice_get log (length phases) ≡ Some t
      → waiting first log (phases ++ Idle ∷ [])
      ≡ waiting first log phases ++ record { no = first + length phases; plan = t.plan; marked = false } ∷ []
  pub lends : (phases : List Phase) (place : ℕ) → slice_get phases place ≡ Some Idle
      → waiting first log (slice_set phases place Out) ≡ with_mark (first + place) true (waiting first log phases)
  pub runs : (phases : List Phase) (place : ℕ) → slice_get phases place ≡ Some Out
      → waiting first log (slice_set phases place Ran) ≡ waiting first log phases
  pub takes_back : (phases : List Phase) (place : ℕ) → is_out (slice_get phases place) ≡ true
      → waiting first log (slice_set phases place Idle) ≡ with_mark (first + place) false (waiting first log phases)
  pub settles : (phases : List Phase) (place : ℕ) → is_out (slice_get phases place) ≡ true
      → waiting first log (slice_set phases place Settled) ≡ without (first + place) (waiting first log phases)
  -- each that is admitted and unsettled is there with its plan
  pub there : (phases : List Phase) (place : ℕ) (t : Transaction) (p : Phase) → slice_get log place ≡ Some t
      → slice_get phases place ≡ Some p
      → is_settled (Some p) ≡ false → plan_of (waiting first log phases) (first + place) ≡ Some t.plan
  -- and no other
  pub only : (phases : List Phase) (number : ℕ) (plan : Requests)
      → plan_of (waiting first log phases) number ≡ Some plan
      → (place : ℕ) × (t : Transaction) × (p : Phase) × (number ≡ first + place) × (slice_get log place ≡ Some t)
      × (slice_get phases place ≡ Some p) × (is_settled (Some p) ≡ false) × (plan ≡ t.plan)
  pub below : (phases : List Phase) → AreBelow (first + length phases) (waiting first log phases)
  pub rising : (phases : List Phase) → IsRising (waiting first log phases)
  -- the least ready number without a mark is the least to which rows may be lent
  pub next_ready : (arena : ℕ) (phases : List Phase) (found : Option ℕ) → length phases ≤ length log
      → IsNextReady (waiting first log phases) found
      → IsLeastLend arena first log phases found
  -- what is out stays ready
  pub stays_ready : StaysReady first log

-- the transactions that wait are those that are admitted and unsettled, with their plans; the least that is ready and
-- has no mark is the least to which rows may be lent; each that is out stays ready
abbrev pub AdmittedAndUnsettledWait : Type 0
AdmittedAndUnsettledWait = (first : ℕ) (log : List Transaction) → FollowsPhases first log

-- ---- answers

-- but for want of memory, the events determine what is answered and what comes of them
abbrev pub OnePlay : Type 0
OnePlay =
    (arena first : ℕ) (log : List Transaction) (old new other : List Phase) (events : List Event)
    (answers others : List StepAnswer)
    → Played arena first log old events answers new → Played arena first log old events others other
    → (Contains answers NoMemory → ⊥) → (Contains others NoMemory → ⊥) → (answers ≡ others) × (new ≡ other)

-- ---- room

-- the plans of those that wait never take more room than there is
abbrev pub RoomIsKept : Type 0
RoomIsKept =
    (arena first : ℕ) (log : List Transaction) (old new : List Phase) (events : List Event) (answers : List StepAnswer)
    → used (waiting first log old) ≤ arena → Played arena first log old events answers new
    → used (waiting first log new) ≤ arena

-- ---- places

-- the events of the transaction at a place, whose number is `first` and its place
pub record AreByPlaces (arena first : ℕ) (log : List Transaction) (phases : List Phase) : Type 0 where
  pub phase : (place : ℕ) → phase_of first phases (first + place) ≡ slice_get phases place
  pub no_phase : (number : ℕ) → number < first → phase_of first phases number ≡ None
  pub lend : (place : ℕ) → enabled arena first log phases (Lend (first + place))
      ≡ (is_idle (slice_get phases place) && ready (waiting first log phases) (first + place))
  pub run : (place : ℕ) → enabled arena first log phases (Run (first + place)) ≡ is_lent (slice_get phases place)
  pub settle : (place : ℕ) → enabled arena first log phases (Settle (first + place)) ≡ was_run (slice_get phases place)
  pub after_lend : (place : ℕ) → step first phases (Lend (first + place)) ≡ slice_set phases place Out
  pub after_run : (place : ℕ) → step first phases (Run (first + place)) ≡ slice_set phases place Ran
  pub after_settle : (place : ℕ) → step first phases (Settle (first + place)) ≡ slice_set phases place Settled
  -- the next steps of the transactions before a place, and of one more
  pub steps_before : (place : ℕ) (p : Phase) → slice_get phases place ≡ Some p
      → next_steps first (take (suc place) phases) ≡ next_steps first (take place phases) ++ next_step (first + place) p
  -- where all before a place are settled and that one isn't, its step is the next event
  pub first_open : (place : ℕ) (p : Phase) → slice_get phases place ≡ Some p → is_settled (Some p) ≡ false
      → ((i : ℕ) → i < place → is_settled (slice_get phases i) ≡ true)
      → next_event first log phases ≡ Some (first_step (next_step (first + place) p))
  -- where all are settled, it is Admit, if there is one more
  pub none_open : ((i : ℕ) → i < length phases → is_settled (slice_get phases i) ≡ true)
      → next_event first log phases ≡ (if length phases == length log then None else Some Admit)

-- where the events of the transaction at a place of the log are enabled, and what they do to the phases
abbrev pub EventsByPlaces : Type 0
EventsByPlaces = (arena first : ℕ) (log : List Transaction) (phases : List Phase) → AreByPlaces arena first log phases

-- ---- no stuck state

abbrev pub FitIn : ℕ → List Transaction → Type 0
FitIn arena log = (place : ℕ) (t : Transaction) → slice_get log place ≡ Some t → length t.plan ≤ arena

-- where no plan is larger than the room, some event is enabled in every state that isn't done
abbrev pub NoStuckState : Type 0
NoStuckState =
    (arena first : ℕ) (log : List Transaction) (phases : List Phase) → length phases ≤ length log → FitIn arena log
    → is_done log phases ≡ false → (event : Event) × (enabled arena first log phases event ≡ true)

-- the next event is enabled, or all is done
abbrev pub NextEventIsEnabled : Type 0
NextEventIsEnabled =
    (arena first : ℕ) (log : List Transaction) (phases : List Phase) → length phases ≤ length log → FitIn arena log
    → IsNextEvent arena first log phases (next_event first log phases)

-- the list of the enabled events has each of them and no other, in order
pub record EnabledEventsAreListed : Type 0 where
  pub exact : (arena first : ℕ) (log : List Transaction) (phases : List Phase)
      → ListsEnabled arena first log phases (enabled_events arena first log phases)
  pub one : (arena first : ℕ) (log : List Transaction) (phases : List Phase) (events : List Event)
      → ListsEnabled arena first log phases events
      → events ≡ enabled_events arena first log phases
  -- none is enabled exactly where all is done
  pub none : (arena first : ℕ) (log : List Transaction) (phases : List Phase) → length phases ≤ length log
      → FitIn arena log
      → (enabled_events arena first log phases ≡ []) ↔ (is_done log phases ≡ true)
  -- what is chosen is enabled, and nothing is chosen exactly where all is done
  pub choice : (arena first : ℕ) (log : List Transaction) (phases : List Phase) (n : ℕ) (event : Event)
      → chosen n (enabled_events arena first log phases) ≡ Some event → enabled arena first log phases event ≡ true
  pub no_choice : (arena first : ℕ) (log : List Transaction) (phases : List Phase) (n : ℕ) → length phases ≤ length log
      → FitIn arena log
      → (chosen n (enabled_events arena first log phases) ≡ None) ↔ (is_done log phases ≡ true)

-- choice 0 is to admit where that is enabled, and else the next event
abbrev pub FirstChoice : Type 0
FirstChoice =
    (arena first : ℕ) (log : List Transaction) (phases : List Phase) → length phases ≤ length log → FitIn arena log
    → chosen 0 (enabled_events arena first log phases)
    ≡ (if enabled arena first log phases Admit then Some Admit else next_event first log phases)

-- ---- four steps a transaction

-- an enabled event: it brings the state one step further, admits no more than the log has,
-- and what is settled stays settled
pub record GoesOn (log : List Transaction) (old new : List Phase) : Type 0 where
  pub further : progress new ≡ progress old + 1
  pub within : length old ≤ length log → length new ≤ length log
  pub settled_stays : (place : ℕ) → is_settled (slice_get old place) ≡ true → is_settled (slice_get new place) ≡ true

-- an enabled event brings the state one step further, and what is settled stays settled
pub record EachStepGoesOn : Type 0 where
  pub goes_on : (arena first : ℕ) (log : List Transaction) (phases : List Phase) (event : Event)
      → enabled arena first log phases event ≡ true → GoesOn log phases (step first phases event)
  -- four steps a transaction are the most
  pub most : (phases : List Phase) → progress phases ≤ 4 * length phases

-- as many events are made as the state gets further: four a transaction from the start to the end
pub record FourStepsEach : Type 0 where
  -- as many answers are Made as the state got further
  pub counted : (arena first : ℕ) (log : List Transaction) (old new : List Phase) (events : List Event)
      (answers : List StepAnswer)
      → Played arena first log old events answers new → progress new ≡ progress old + count_by is_made answers
  pub four : (arena first : ℕ) (log : List Transaction) (new : List Phase) (events : List Event)
      (answers : List StepAnswer)
      → Played arena first log [] events answers new → is_done log new ≡ true
      → count_by is_made answers ≡ 4 * length log
