-- What a listener was told, from where a batch began to where it ended or was interrupted.
use Rattle.std.proofs.Common.{◌≡◌, ℕ, true, List, length, Option, None, Some, Result, Ok, Err, IfOk, OnOk, sym, ap, ◌∙◌, arith}
use Rattle.std.proofs.lemmas.Bool.Decides.{nat_tests}
use Rattle.std.proofs.lemmas.List.{length-map}
use Rattle.catalogue.specs.Shapes.{TableShape}
use Rattle.values.specs.Database.{Database}
use Rattle.meaning.specs.Entries.{Reply, EntryShape}
use Rattle.meaning.specs.Serial.{serial_replies}
use Rattle.sequencer.specs.Attempts.{attempts_in, requests_in}
use Rattle.sequencer.specs.Entries.{prepared}
use Rattle.interp.specs.Entries.{entry_shape}
use Rattle.scheduler_core.specs.declared.phase.Phase.{Phase}
use Rattle.scheduler_core.specs.Transactions.{Transaction}
use Rattle.scheduler_core.specs.Phases.{is_done}
use Rattle.scheduler.specs.Schedules.{Work, log_of, phases_of}
use Rattle.engine.specs.declared.stage.Begun.{Begun as BegunOf}
use Rattle.engine.specs.declared.stage.Stage.{Stage}
use Rattle.engine.specs.declared.stage.Stage.TheVariants.{Begun}
use Rattle.engine.specs.declared.ending.Ended.{Ended}
use Rattle.engine.specs.declared.working.Interruption.{Interruption}
use Rattle.progress.specs.Accounts.{Account}
use Rattle.engine.specs.Engines.{Unfinished}
use Rattle.dispatcher.specs.Tallies.{tally_of, together, settled_among}
use Rattle.engine.specs.Accounts.{settled_of}
use Rattle.dispatcher.specs.Listeners.{AreCounted, replies_in, settled_in}
use Rattle.engine.specs.Stages.{IsBegun, IsEndOf, KnowsSettled, KnowsEnd, rows_in, unfinished_in, unfinished_of}
use Rattle.dispatcher.proofs.Told.{log_many, replies_many}
use Rattle.dispatcher.proofs.Facts.{and_right}
use Rattle.dispatcher.proofs.Counting.{all_among}

pub few_entries : (tables : List TableShape) (first : ℕ) (b : BegunOf) → IsBegun tables first b → length b.scheduler.work.entries ≡ length (attempts_in b.attempts)
few_entries tables first b h =
    sym (length-map b.scheduler.work.entries entry_shape) ∙ ap length h.schedule.entries ∙ length-map (requests_in b.attempts) (prepared b.scheduler.work.start)
    ∙ length-map (attempts_in b.attempts) (λ attempt. attempt.request)

-- what is settled of a batch that has begun
settled_begun : (tables : List TableShape) (first : ℕ) (b : BegunOf) → IsBegun tables first b
    → settled_in b.scheduler ≡ settled_of (Some (unfinished_of b)) b.scheduler.work.start
settled_begun tables first b h =
    ap (λ (es : List EntryShape). settled_among (phases_of b.scheduler) (serial_replies es b.scheduler.work.start)) h.schedule.entries

pub begun_told : (tables : List TableShape) (first : ℕ) (old : Stage) (b : BegunOf) (a : Option Account) → IsBegun tables first b
    → b.scheduler.work.start ≡ rows_in (Some old) → Some (unfinished_of b) ≡ unfinished_in (Some old) → KnowsSettled first old a → AreCounted b.scheduler a
begun_told tables first old b None h start same knows = tt
begun_told tables first old b (Some a) h start same knows =
    let settled : settled_in b.scheduler ≡ settled_of (unfinished_in (Some old)) (rows_in (Some old)) =
    settled_begun tables first b h
    ∙ ap (λ (u : Option Unfinished). settled_of u b.scheduler.work.start) same
    ∙ ap (settled_of (unfinished_in (Some old))) start in
    let many = few_entries tables first b h in
    record {
      first = knows.ended ∙ sym h.schedule.numbered;
      few = omega (arith, many, h.from.few, h.schedule.numbered);
      shows = knows.shows ∙ ap (λ (rs : List Reply). together a.ended (tally_of rs)) (sym settled);
    }

pub stop_told : (tables : List TableShape) (first : ℕ) (b : BegunOf) (a : Option Account) → IsBegun tables first b → AreCounted b.scheduler a → KnowsSettled first (Begun b) a
stop_told tables first b None h counts = tt
stop_told tables first b (Some a) h counts = record {
  ended = counts.first ∙ h.schedule.numbered;
  shows = counts.shows ∙ ap (λ (rs : List Reply). together a.ended (tally_of rs)) (settled_begun tables first b h);
}

same_length : (phases : List Phase) (log : List Transaction) → is_done log phases ≡ true → length phases ≡ length log
same_length phases log done = grind (arith, nat_tests, done)

pub end_told : (tables of_end : List TableShape) (first retries : ℕ) (b : BegunOf) (ended : Ended) (a : Option Account) → IsBegun tables first b
    → is_done (log_of b.scheduler.work) (phases_of b.scheduler) ≡ true → IsEndOf of_end first retries (attempts_in b.attempts) b.scheduler.work.start ended → AreCounted b.scheduler a → KnowsEnd ended.done a
end_told tables of_end first retries b ended None h done end counts = tt
end_told tables of_end first retries b ended (Some a) h done end counts =
    let w : Work = b.scheduler.work in
    let log = log_many w.entries w.plans h.schedule.plans in
    let same = same_length (phases_of b.scheduler) (log_of w) done in
    let many = replies_many w in
    let all = all_among (phases_of b.scheduler) (replies_in w) (omega (arith, log, same, many)) (and_right _ _ done) in
    counts.shows
    ∙ ap (λ (rs : List Reply). together a.ended (tally_of rs)) (all ∙ ap (λ (es : List EntryShape). serial_replies es w.start) h.schedule.entries ∙ sym end.replies)

pub ended_told : (tables : List TableShape) (first retries : ℕ) (b : BegunOf) (r : Result Ended Interruption) (a : Option Account) → IsBegun tables first b
    → OnOk r (is_done (log_of b.scheduler.work) (phases_of b.scheduler) ≡ true)
    → IfOk r (IsEndOf b.scheduler.work.tables first retries (attempts_in b.attempts) b.scheduler.work.start) → AreCounted b.scheduler a → IfOk r (λ ended. KnowsEnd ended.done a)
ended_told tables first retries b (Ok ended) a h done end counts = end_told tables b.scheduler.work.tables first retries b ended a h done end counts
ended_told tables first retries b (Err stop) a h done end counts = tt
