-- Of the code: invariants and steps; no promise rests on these words.
-- The stages of an engine.
use Rattle.std.specs.Prelude.{◌≡◌, ◌+◌, ◌≤◌, ◌^◌, ℕ, List, [], length, map, Bool, true, false, Option, Some, None, Result, Ok, Err, ⊤}
use Rattle.std.specs.FinMap.{empty}
use Rattle.progress.specs.Tallies.{zero_tally, latest}
use Rattle.catalogue.specs.Shapes.{TableShape}
use Rattle.values.specs.Database.{Database}
use Rattle.row_store.specs.Stock.{Stock}
use Rattle.sequencer.specs.declared.attempts.Attempts.{Attempts}
use Rattle.sequencer.specs.declared.attempts.Carried.{Carried}
use Rattle.sequencer.specs.Attempts.{Attempt, attempts_in, requests_in, left_of, AreCarriedOver, AreRequestsOver}
use Rattle.interp.specs.Entries.{entry_shape}
use Rattle.scheduler.specs.Schedules.{Schedule, phases_of, KeepsItsJobs}
use Rattle.meaning.specs.Serial.{serial_end, serial_replies}
use Rattle.engine.specs.declared.stage.Begun.{Begun as BegunOf}
use Rattle.engine.specs.declared.ending.Ended.{Ended}
use Rattle.engine.specs.declared.fault.ExecFault.{ExecFault}
use Rattle.engine.specs.declared.replies.BatchDone.{BatchDone}
use Rattle.engine.specs.declared.stage.Stage.{Stage}
use Rattle.engine.specs.declared.stage.Stage.TheVariants.{Idle, Held, Begun}
use Rattle.engine.specs.Batches.{entries_of}
use Rattle.progress.specs.Accounts.{Account}
use Rattle.engine.specs.Engines.{EngineParts, Unfinished}
use Rattle.dispatcher.specs.Runs.{NoneIsOut}
use Rattle.dispatcher.specs.Listeners.{CountsReplies}
use Rattle.engine.specs.Accounts.{settled_of}
use Rattle.engine.specs.Replies.{reply_of, sent_of, sent_from}
use Rattle.dispatcher.specs.declared.refusal.Refusal.{Refusal}
use Rattle.dispatcher.specs.declared.refusal.Refusal.TheVariants.{Thread, Memory}
use Rattle.engine.specs.declared.working.Interruption.{Interruption}
use Rattle.engine.specs.Executions.{taken, WaitsIn}

abbrev pub unfinished_of : BegunOf → Unfinished
unfinished_of begun = record { attempts = attempts_in begun.attempts; phases = phases_of begun.scheduler }

-- the batch that is unfinished, and the database before it
abbrev pub unfinished_in : Option Stage → Option Unfinished
unfinished_in None = None
unfinished_in (Some (Idle store carried)) = None
unfinished_in (Some (Held attempts store)) = Some (taken (attempts_in attempts))
unfinished_in (Some (Begun begun)) = Some (unfinished_of begun)

abbrev pub rows_in : Option Stage → Database
rows_in None = empty
rows_in (Some (Idle store carried)) = store.rows
rows_in (Some (Held attempts store)) = store.rows
rows_in (Some (Begun begun)) = begun.scheduler.work.start

-- the requests that are carried to the next batch
abbrev pub carried_in : Option Stage → List Carried
carried_in None = []
carried_in (Some (Idle store carried)) = carried.items
carried_in (Some (Held attempts store)) = []
carried_in (Some (Begun begun)) = []

-- rows over the tables, of which nothing is lent
pub record IsFree (tables : List TableShape) (store : Stock) : Type 0 where
  pub over : store.tables ≡ tables
  pub unlent : store.lent ≡ empty

-- a batch's attempts at procedures over the tables, whose transactions are numbered from a first one
pub record IsBatchFrom (tables : List TableShape) (first : ℕ) (attempts : Attempts) : Type 0 where
  pub over : AreRequestsOver tables (requests_in attempts)
  pub few : first + length (attempts_in attempts) ≤ 2 ^ 48

-- a scheduler of the attempts' entries
pub record IsScheduleOf (tables : List TableShape) (first : ℕ) (attempts : Attempts) (scheduler : Schedule)
    : Type 0 where
  pub over : scheduler.work.tables ≡ tables
  pub numbered : scheduler.work.first ≡ first
  pub entries : map entry_shape scheduler.work.entries ≡ entries_of scheduler.work.start (attempts_in attempts)
  pub plans : length scheduler.work.plans ≡ length scheduler.work.entries

-- no job is with the caller, and none is out
pub record HasNoJobOut (scheduler : Schedule) : Type 0 where
  pub keeps : KeepsItsJobs scheduler
  pub none_out : NoneIsOut (phases_of scheduler)

pub record IsHeldBatch (tables : List TableShape) (first : ℕ) (attempts : Attempts) (store : Stock) : Type 0 where
  pub from : IsBatchFrom tables first attempts
  pub free : IsFree tables store

pub record IsBegun (tables : List TableShape) (first : ℕ) (begun : BegunOf) : Type 0 where
  pub from : IsBatchFrom tables first begun.attempts
  pub schedule : IsScheduleOf tables first begun.attempts begun.scheduler
  pub rest : HasNoJobOut begun.scheduler

-- how a stage fits the tables and the number of the next transaction
abbrev pub FitsStage : List TableShape → ℕ → Stage → Type 0
FitsStage tables next (Idle store carried) =
    IsFree tables store × (next ≤ 2 ^ 48) × AreCarriedOver tables carried.items × (length carried.items ≤ next)
FitsStage tables next (Held attempts store) = IsHeldBatch tables next attempts store
FitsStage tables next (Begun begun) = IsBegun tables next begun

abbrev pub IsSoundStage : List TableShape → ℕ → Option Stage → Type 0
IsSoundStage tables next None = ⊥
IsSoundStage tables next (Some stage) = FitsStage tables next stage

-- what the watchers are told
abbrev pub account_in : Option Account → Account
account_in None = record { ended = zero_tally; published = []; place = None }
account_in (Some account) = account

-- what they are told is what is settled: the transactions in the batches that ended, and those of an unfinished one on
-- these rows
pub record IsShown (next : ℕ) (unfinished : Option Unfinished) (rows : Database) (account : Account) : Type 0 where
  pub ended : account.ended.settled ≡ next
  pub shows : CountsReplies account (settled_of unfinished rows)

abbrev pub IsToldSettled : EngineParts → Option Account → Type 0
IsToldSettled engine None = ⊥
IsToldSettled engine (Some account) = IsShown engine.next engine.unfinished engine.rows account

-- a listener that claims anything was told this
abbrev pub IsHeard : ℕ → Option Unfinished → Database → Option Account → Type 0
IsHeard next unfinished rows None = ⊤
IsHeard next unfinished rows (Some account) = IsShown next unfinished rows account

abbrev pub KnowsSettled : ℕ → Stage → Option Account → Type 0
KnowsSettled first stage account = IsHeard first (unfinished_in (Some stage)) (rows_in (Some stage)) account

-- the end of a batch of these attempts: the rows are those that their entries one by one on the rows before it leave,
-- the replies are theirs, and of those that were stale the requests are left that had few enough attempts before
pub record IsEndOf (tables : List TableShape) (first retries : ℕ) (attempts : List Attempt) (start : Database)
    (ended : Ended)
    : Type 0 where
  pub free : IsFree tables ended.store
  pub rows : ended.store.rows ≡ serial_end (entries_of start attempts) start
  pub numbered : ended.done.first ≡ first
  pub sent : map sent_of ended.done.replies.items ≡ sent_from first attempts
  pub replies : map reply_of ended.done.replies.items ≡ serial_replies (entries_of start attempts) start
  pub count : length ended.done.replies.items ≡ length attempts
  pub few : first + length attempts ≤ 2 ^ 48
  pub left : ended.left.items
      ≡ left_of retries first attempts (serial_replies (entries_of start attempts) start)
  pub left_over : AreCarriedOver tables ended.left.items
  pub left_few : length ended.left.items ≤ length ended.done.replies.items

abbrev pub EndsUnfinished : List TableShape → ℕ → ℕ → Option Unfinished → Database → Ended → Type 0
EndsUnfinished tables first retries None start ended = ⊥
EndsUnfinished tables first retries (Some unfinished) start ended =
    IsEndOf tables first retries unfinished.attempts start ended

-- what the system refused: memory, where all transactions were run
abbrev pub refusal_in : Result (Unit {0}) Refusal → Refusal
refusal_in (Ok ran) = Memory
refusal_in (Err refusal) = refusal

-- where a stop leaves an unfinished batch: where allocation failed no job of it is out and what was settled of it is
-- settled still, and where a thread was refused, nothing has changed
abbrev pub Stopped : Refusal → Option Unfinished → Option Unfinished → Type 0
Stopped Memory old new = WaitsIn old new
Stopped Thread old new = new ≡ old

pub record IsInterruptedStage (tables : List TableShape) (first : ℕ) (old : Stage) (stop : Interruption) : Type 0 where
  pub fits : FitsStage tables first stop.stage
  pub rows : rows_in (Some stop.stage) ≡ rows_in (Some old)
  pub batch : Stopped stop.refusal (unfinished_in (Some old)) (unfinished_in (Some stop.stage))

-- what a listener was told when a batch ended counts its replies
abbrev pub KnowsEnd : BatchDone → Option Account → Type 0
KnowsEnd done None = ⊤
KnowsEnd done (Some account) = CountsReplies account (map reply_of done.replies.items)

-- what a listener was told by the call that left an engine so
abbrev pub HasHeard : EngineParts → Result BatchDone ExecFault → Option Account → Type 0
HasHeard engine (Ok done) account = KnowsEnd done account
HasHeard engine (Err fault) account = IsHeard engine.next engine.unfinished engine.rows account

-- what was published counts among the batches that ended, where a batch has ended
abbrev pub published_until : Bool → Account → Account
published_until true account = record account { ended = latest account.published }
published_until false account = account
