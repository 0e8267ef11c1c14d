-- Claimed: what contracts promise to a reader rests on these words.
-- What serving several clients comes to, however it ends.
use Rattle.std.specs.Prelude.{◌≡◌, ◌+◌, ◌<◌, ◌^◌, List, [], ◌∷◌, ◌++◌, length, map, Option, Some, None, Result, Ok, Err, IfSome, IsSomeAnd, false}
use Rattle.std.specs.List.{AllByRecursion}
use Rattle.requests.specs.ProcLists.{ProcsParts}
use Rattle.sequencer.specs.declared.attempts.Carried.{Carried}
use Rattle.retries.specs.Standings.{Standing}
use Rattle.running.specs.Standings.{standing_of}
use Rattle.intake.specs.Histories.{HasAll, IsNumbered}
use Rattle.engine.specs.Engines.{EngineParts, Unfinished, is_busy}
use Rattle.engine.specs.Executions.{KeepsSetting}
use Rattle.example_serving.specs.Calls.{CallItem}
use Rattle.example_serving.specs.Logs.{ClientLog, HasLog, histories_from}
use Rattle.example_serving.specs.declared.told.Told.{Told}
use Rattle.example_serving.specs.declared.told.ServeFault.{ServeFault}
use Rattle.example_serving.specs.declared.told.ServeFault.TheVariants.{LogFull, Spawn, NoMemory}
use Rattle.example_serving.specs.Serving.{said_in, attempts_for, all_said, all_end}

-- that all was answered, or why not
abbrev pub Served : Type 0
Served = Result (Unit {0}) ServeFault

-- the calls of batches, one batch after another
abbrev pub calls_of_batches : List (List CallItem) → List CallItem
calls_of_batches [] = []
calls_of_batches (b ∷ bs) = b ++ calls_of_batches bs

-- where the log of an engine is after batches of calls
abbrev pub standing_after : EngineParts → List (List CallItem) → Standing
standing_after engine batches = all_end engine.retries engine.procs (standing_of engine) batches

-- what is carried beside a batch: nothing where one is unfinished, since it has all that was carried among its attempts
abbrev pub carried_beside : Option Unfinished → List Carried → List Carried
carried_beside None carried = carried
carried_beside (Some unfinished) carried = []

-- Batches of calls were answered, of which some may have no calls: what was told in between is what their serial run
-- answers where the engine's log was, and the log is where that leaves it. Each attempt of a request is a transaction
pub record AnswersBatches (batches : List (List CallItem)) (old new : EngineParts) (before after : List Told)
    : Type 0 where
  pub same : KeepsSetting old new
  pub next : new.next ≡ (standing_after old batches).next
  pub rows : new.rows ≡ (standing_after old batches).rows
  pub carried : new.carried ≡ carried_beside new.unfinished (standing_after old batches).carried
  pub told : map said_in after ≡ map said_in before ++ all_said old.retries old.procs (standing_of old) batches

-- an unfinished batch has as its attempts what was carried, and the requests of calls with which this list begins
pub record IsOfFirst (procs : ProcsParts) (s : Standing) (calls : List CallItem) (unfinished : Unfinished)
    : Type 0 where
  pub first : List CallItem
  pub others : List CallItem
  pub begins : calls ≡ first ++ others
  pub attempts : unfinished.attempts ≡ attempts_for procs s first

-- with what is carried and the requests of calls with which this list begins the log would have more than 2^48
-- transactions
pub record IsTooLong (procs : ProcsParts) (s : Standing) (calls : List CallItem) : Type 0 where
  pub first : List CallItem
  pub others : List CallItem
  pub begins : calls ≡ first ++ others
  pub long : 2 ^ 48 < s.next + length (attempts_for procs s first)

-- What is so in the end of the engine, whose log is there, and of the calls that were drawn and not answered. After
-- `Ok` there are none, and nothing is carried. Where the engine's log would be too long, it holds no batch. Where a
-- thread was refused, it holds the batch that comes next; where allocation failed, that batch or none. Where all calls
-- were answered, the batch that comes next has what is carried alone
abbrev pub EndsSo : Served → Standing → EngineParts → List CallItem → Type 0
EndsSo (Ok done) s engine left = (left ≡ []) × (is_busy engine ≡ false) × (engine.carried ≡ [])
EndsSo (Err LogFull) s engine left = (is_busy engine ≡ false) × IsTooLong engine.procs s left
EndsSo (Err Spawn) s engine left = IsSomeAnd engine.unfinished (IsOfFirst engine.procs s left)
EndsSo (Err NoMemory) s engine left = IfSome engine.unfinished (IsOfFirst engine.procs s left)

-- Of calls that were drawn a first part, cut in batches, was answered, each batch whole. The others were not
pub record AnswersFirstPart (drawn : List CallItem) (ended : Served) (old new : EngineParts) (before after : List Told)
    : Type 0 where
  pub batches : List (List CallItem)
  pub left : List CallItem
  pub cut : drawn ≡ calls_of_batches batches ++ left
  pub answers : AnswersBatches batches old new before after
  pub ends : EndsSo ended (standing_after old batches) new left

-- There is one list of the clients' calls. Each is of a client that has a log, and each client's are numbered 0, 1, 2
-- and so on in it, in order and each once: they are that client's log. The list was served
pub record IsService (old : EngineParts) (logs : List ClientLog) (new : EngineParts) (told : List Told)
    (ended : Served) : Type 0 where
  pub drawn : List CallItem
  pub owners : AllByRecursion (λ item. HasLog logs item.client) drawn
  pub numbered : IsNumbered drawn
  pub whole : HasAll drawn (histories_from 1 logs)
  pub serves : AnswersFirstPart drawn ended old new [] told
