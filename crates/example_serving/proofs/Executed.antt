-- A batch that was executed, or was not.
use Rattle.std.proofs.Common.{◌≡◌, ◌+◌, ◌<◌, ◌^◌, ℕ, List, [], ◌++◌, length, drop, map, take, is_some, Option, Some, None, Ok, Err, IsSomeAnd, IsErrAnd, false, refl, sym, ap, ◌∙◌, subst}
use Rattle.std.proofs.lemmas.List.{append-nil, drop-map}
use Rattle.requests.specs.ProcLists.{ProcsParts}
use Rattle.meaning.specs.Entries as meant
use Rattle.meaning.specs.Serial.{serial_end, serial_replies}
use Rattle.sequencer.specs.Attempts.{Attempt, own, attempts_of, left_of}
use Rattle.sequencer.specs.Batches.{RequestItem, items_of}
use Rattle.sequencer.specs.declared.attempts.Carried.{Carried}
use Rattle.sequencer.specs.declared.batch.Batch.{Batch}
use Rattle.retries.specs.Standings.{Standing}
use Rattle.engine.specs.declared.replies.BatchDone.{BatchDone}
use Rattle.engine.specs.Batches.{entries_of, next_attempts}
use Rattle.engine.specs.Engines.{EngineParts, Unfinished, is_busy}
use Rattle.engine.specs.Executions.{IsExecutionOf, KeepsSetting}
use Rattle.engine.specs.Replies.{reply_of}
use Rattle.example_serving.specs.declared.taking_in.Asked.{Asked}
use Rattle.example_serving.specs.Calls.{CallItem, requests_of, asked_of}
use Rattle.example_serving.specs.declared.told.Told.{Told}
use Rattle.example_serving.specs.declared.told.ServeFault.{ServeFault}
use Rattle.example_serving.specs.declared.told.ServeFault.TheVariants.{LogFull, Spawn, NoMemory}
use Rattle.example_serving.specs.Serving.{said_in, said_again, answers_to, attempts_for, replies_for}
use Rattle.example_serving.specs.Services.{Served, AnswersBatches, EndsSo, IsOfFirst, IsTooLong, carried_beside}
use Rattle.running.specs.Standings.{standing_of}
use Rattle.example_serving.specs.Steps.{HoldsBatch, IsStopped, AnswersAll, ServesOn, said_by}
use Rattle.example_serving.proofs.Answered.{none_answered, same_answered, one_answered}
use Rattle.example_serving.proofs.Again.{again_said}
use Rattle.example_serving.proofs.Served.{held_so, none_served, one_served}

-- a fault that is passed on
pub err_is : (r : Served) (fault : ServeFault) → IsErrAnd r (λ x. x ≡ fault) → r ≡ Err fault
err_is (Ok done) fault h = absurd h
err_is (Err x) fault h = ap (λ (f : ServeFault). Err f) h

-- ---- a batch that was not executed

-- the attempts of a batch of these calls
attempts_so : (calls : List CallItem) (batch : Batch) (old : EngineParts) → items_of batch ≡ requests_of old.procs calls → next_attempts old batch ≡ attempts_for old.procs (standing_of old) calls
attempts_so calls batch old same = ap (λ (l : List RequestItem). attempts_of old.carried l) same

-- a batch of all these calls is one of the first of them
of_all : (procs : ProcsParts) (s : Standing) (calls : List CallItem) (attempts : List Attempt) (held : Option Unfinished) → attempts ≡ attempts_for procs s calls
    → IsSomeAnd held (λ u. u.attempts ≡ attempts) → IsSomeAnd held (IsOfFirst procs s calls)
of_all procs s calls attempts None same h = h
of_all procs s calls attempts (Some u) same h = record { first = calls; others = []; begins = sym (append-nil calls); attempts = h ∙ same }

held_ends : (calls : List CallItem) (batch : Batch) (old new : EngineParts) → items_of batch ≡ requests_of old.procs calls → KeepsSetting old new → HoldsBatch old new (next_attempts old batch)
    → IsSomeAnd new.unfinished (IsOfFirst new.procs (standing_of old) calls)
held_ends calls batch old new same kept h =
    of_all new.procs (standing_of old) calls (next_attempts old batch) new.unfinished
    (attempts_so calls batch old same ∙ ap (λ (p : ProcsParts). attempts_for p (standing_of old) calls) (sym kept.procs)) h.held

-- what is so where a batch was not executed
stopped_ends : (calls : List CallItem) (batch : Batch) (fault : ServeFault) (old new : EngineParts) → items_of batch ≡ requests_of old.procs calls → KeepsSetting old new → is_busy old ≡ false
    → IsStopped old new batch fault → EndsSo (Err fault) (standing_of old) new calls
stopped_ends calls batch LogFull old new same kept idle h = (
  ap is_busy h.1 ∙ idle,
  subst (λ (e : EngineParts). IsTooLong e.procs (standing_of old) calls) (sym h.1)
      (record {
        first = calls;
        others = [];
        begins = sym (append-nil calls);
        long = subst (λ (l : List Attempt). 2 ^ 48 < old.next + length l) (attempts_so calls batch old same) h.0;
      }),
)
stopped_ends calls batch Spawn old new same kept idle h = held_ends calls batch old new same kept h
stopped_ends calls batch NoMemory old new same kept idle h = held_so new.procs (standing_of old) calls new.unfinished (held_ends calls batch old new same kept h)

-- nothing is carried beside a batch that is held
beside_held : (attempts : List Attempt) (held : Option Unfinished) (carried : List Carried) → IsSomeAnd held (λ (u : Unfinished). u.attempts ≡ attempts) → carried_beside held carried ≡ []
beside_held attempts None carried h = absurd h
beside_held attempts (Some u) carried h = refl

held_answers : (attempts : List Attempt) (old new : EngineParts) (told : List Told) → KeepsSetting old new → HoldsBatch old new attempts → AnswersBatches [] old new told told
held_answers attempts old new told kept h = none_answered old new told told kept h.next h.rows (h.carried ∙ sym (beside_held attempts new.unfinished old.carried h.held)) refl

stopped_answers : (batch : Batch) (fault : ServeFault) (old new : EngineParts) (told : List Told) → KeepsSetting old new → is_busy old ≡ false → IsStopped old new batch fault → AnswersBatches [] old new told told
stopped_answers batch LogFull old new told kept idle h = subst (λ (e : EngineParts). AnswersBatches [] old e told told) (sym h.1) (same_answered old told told idle refl)
stopped_answers batch Spawn old new told kept idle h = held_answers (next_attempts old batch) old new told kept h
stopped_answers batch NoMemory old new told kept idle h = held_answers (next_attempts old batch) old new told kept h

pub stopped_served : (calls : List CallItem) (batch : Batch) (fault : ServeFault) (ended : Served) (old new : EngineParts) (before after : List Told) → ended ≡ Err fault → items_of batch ≡ requests_of old.procs calls
    → KeepsSetting old new → is_busy old ≡ false → IsStopped old new batch fault → after ≡ before → ServesOn calls ended old new before after
stopped_served calls batch fault ended old new before after is same kept idle h told =
    subst (λ (r : Served). ServesOn calls r old new before after) (sym is)
    (subst (λ (t : List Told). ServesOn calls (Err fault) old new before t) (sym told)
    (none_served calls (Err fault) old new before before (stopped_answers batch fault old new before kept idle h) (stopped_ends calls batch fault old new same kept idle h)))

-- ---- a batch that was

pub executed_served : (calls : List CallItem) (batch : Batch) (done : BatchDone) (carried : ℕ) (asked : List Asked) (old new : EngineParts) (before mid after : List Told) → items_of batch ≡ requests_of old.procs calls
    → carried ≡ length old.carried → asked ≡ asked_of old.procs calls → KeepsSetting old new → IsExecutionOf old new (next_attempts old batch) done → mid ≡ before
    → map said_in after ≡ map said_in mid ++ (map said_by (take carried done.replies.items) ++ answers_to asked (map reply_of (drop carried done.replies.items)))
    → AnswersAll calls old new before after
executed_served calls batch done carried asked old new before mid after same count asks kept run none told =
    let attempts : next_attempts old batch ≡ attempts_for old.procs (standing_of old) calls = attempts_so calls batch old same in
    let replies : map reply_of done.replies.items ≡ replies_for old.procs (standing_of old) calls = run.replies ∙ ap (λ (l : List Attempt). serial_replies (entries_of old.rows l) old.rows) attempts in
    let idle : is_busy new ≡ false = ap (λ (held : Option Unfinished). is_some held) run.idle in
    let first : map said_by (take carried done.replies.items) ≡ said_again old.carried (replies_for old.procs (standing_of old) calls) =
    ap (λ k. map said_by (take k done.replies.items)) count ∙ again_said old.carried (map own (items_of batch)) old.next done.replies.items run.sent ∙ ap (λ l. said_again old.carried l) replies in
    let after_those : map reply_of (drop carried done.replies.items) ≡ drop (length old.carried) (replies_for old.procs (standing_of old) calls) =
    ap (λ k. map reply_of (drop k done.replies.items)) count ∙ sym (drop-map reply_of (length old.carried) done.replies.items) ∙ ap (λ (l : List meant.Reply). drop (length old.carried) l) replies in
    one_served calls old new before after
    (one_answered calls old new before after kept
    (run.next ∙ ap (λ (l : List Attempt). old.next + length l) attempts)
    (run.rows ∙ ap (λ (l : List Attempt). serial_end (entries_of old.rows l) old.rows) attempts)
    (run.carried ∙ ap (λ (l : List Attempt). left_of old.retries old.next l (serial_replies (entries_of old.rows l) old.rows)) attempts)
    idle
    (told ∙ (λ i. map said_in (none i) ++ (first i ++ answers_to (asks i) (after_those i)))))
    idle
