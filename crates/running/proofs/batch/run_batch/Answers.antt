use Rattle.std.proofs.Common.{◌≡◌, ◌∙◌, ap, refl, subst, sym, length, List, Option, ℕ}
use Rattle.catalogue.specs.Shapes.{TableShape}
use Rattle.values.specs.Database.{Database}
use Rattle.devices.specs.Devices.{AppendsFront}
use Rattle.requests.specs.Requests.{Call}
use Rattle.sequencer.specs.declared.batch.Batch.{Batch}
use Rattle.sequencer.specs.Attempts.{Attempt}
use Rattle.sequencer.specs.Batches.{items_of, items_from}
use Rattle.report_text.specs.Report.{reply_lines}
use Rattle.retries.specs.Standings.{attempts_at, replies_at, transactions_at}
use Rattle.engine.specs.declared.replies.BatchDone.{BatchDone}
use Rattle.engine.specs.declared.replies.Reply.{Reply}
use Rattle.engine.specs.Batches.{next_attempts}
use Rattle.engine.specs.Engines.{tables_of, EngineParts}
use Rattle.engine.specs.Executions.{IsExecutionOf, KeepsSetting}
use Rattle.running.specs.declared.transcript.Transcript.{Transcript}
use Rattle.running.specs.Batches.{due_text, IsReported}
use Rattle.running.specs.Hashers.{batch_of, form_of}
use Rattle.running.specs.Standings.{standing_of}
use Rattle.running.specs.Transcripts.{said_lines, with_batch_line}
use Rattle.running.specs.Executors.{HasAnswered}
use Rattle.running.proofs.Runs.{held_fault, told_of_thread}
use Rattle.running.proofs.ReplyLines.{attempts_are, keeps_digest, lines_are, standing_is, batch_text_is}
use Rattle.running.proofs.Uncommitted.{keeps_digest_after}
use Rattle.running.proofs.batch.run_batch.Goals as goal

pub execute-requires-clause-over : goal.execute-requires-clause-over
execute-requires-clause-over g c = c.in-Ok.ensures.over (tables_of (g.E.BatchEngine.parts c.args.engine.now)) c.requires.due.over

pub write_batch-requires-clause-kept : goal.write_batch-requires-clause-kept
write_batch-requires-clause-kept g c =
    keeps_digest_after (g.E.BatchEngine.parts c.args.engine.now) (g.E.BatchEngine.parts c.execute.new.engine) c.args.transcript.now _ c.in-Ok-execute.done _ c.in-Ok-execute.ensures.done c.in-Ok-execute.ensures.same
    c.requires.due.digest_kept c.deref.ensures.value

pub returns-in-Ok-write_batch-clause-reported : goal.returns-in-Ok-write_batch-clause-reported
returns-in-Ok-write_batch-clause-reported g c =
    let old = g.E.BatchEngine.parts c.args.engine.now in
    let new = g.E.BatchEngine.parts c.execute.new.engine in
    let run = c.in-Ok-execute.ensures.done in
    let requests = c.args.requests.items in
    let items = c.in-Ok.ensures.items in
    let written = c.in-Ok-write_batch.ensures.written in
    let lines : said_lines c.deref.result.now ≡ reply_lines old.next (transactions_at (standing_of old) requests) (replies_at (standing_of old) requests) =
    ap said_lines c.deref.ensures.value ∙ lines_are _ _ c.in-Ok.batch c.in-Ok-execute.done requests run items in
    let text : with_batch_line (form_of c.args.transcript.now) (batch_of c.args.transcript.now) (tables_of new) new.rows (said_lines c.deref.result.now) ≡ due_text old c.args.transcript.now requests =
    batch_text_is _ _ c.in-Ok.batch c.in-Ok-execute.done requests _ _ _ _ _ run c.in-Ok-execute.ensures.same items refl refl c.deref.ensures.value in
    subst (λ e. IsReported old (g.E.BatchEngine.parts e) c.args.transcript.now c.write_batch.new.self (g.K.Sink.taken c.args.sink.now) (g.K.Sink.taken c.write_batch.new.sink) requests
    × IsExecutionOf old (g.E.BatchEngine.parts e) (attempts_at (standing_of old) requests) c.in-Ok-execute.done) (sym c.write_batch.ensures.same.0) (
      record {
        idle = c.in-Ok-execute.ensures.idle;
        standing = standing_is _ _ c.in-Ok.batch c.in-Ok-execute.done requests run items;
        batch = written.added.batch;
        said = λ m h. rw (← lines) (written.added.said m h);
        text = rw (← text) written.text;
        digest_kept = keeps_digest new c.write_batch.new.self _ _ _ written.rows c.in-Ok-write_batch.ensures.same.1 refl refl;
      },
      rw (attempts_are old c.in-Ok.batch requests items) at run,
    )

front_is : (old new : EngineParts) (t : Transcript) (batch : Batch) (run : BatchDone) (requests : List Call) (given : List TableShape) (rows : Database) (replies : List Reply) (sink filled : Option (List ℕ)) →
    IsExecutionOf old new (next_attempts old batch) run → KeepsSetting old new → items_of batch ≡ items_from 0 requests → given ≡ tables_of new → rows ≡ new.rows → replies ≡ run.replies.items →
    AppendsFront sink filled (with_batch_line (form_of t) (batch_of t) given rows (said_lines replies)) → AppendsFront sink filled (due_text old t requests)
front_is old new t batch run requests given rows replies sink filled r same e tables is f front =
    subst (AppendsFront sink filled) (batch_text_is old new batch run requests (form_of t) (batch_of t) given rows replies r same e tables is f) front

pub returns-in-Ok-write_batch-clause-front : goal.returns-in-Ok-write_batch-clause-front
returns-in-Ok-write_batch-clause-front g c =
    front_is _ _ c.args.transcript.now c.in-Ok.batch c.in-Ok-execute.done c.args.requests.items _ _ _ _ _ c.in-Ok-execute.ensures.done c.in-Ok-execute.ensures.same c.in-Ok.ensures.items
    refl refl c.deref.ensures.value c.write_batch.ensures.front

pub returns-in-Err-write_batch-clause-front : goal.returns-in-Err-write_batch-clause-front
returns-in-Err-write_batch-clause-front g c =
    front_is _ _ c.args.transcript.now c.in-Ok.batch c.in-Ok-execute.done c.args.requests.items _ _ _ _ _ c.in-Ok-execute.ensures.done c.in-Ok-execute.ensures.same c.in-Ok.ensures.items
    refl refl c.deref.ensures.value c.write_batch.ensures.front

pub exec_fault-requires : goal.exec_fault-requires
exec_fault-requires g c =
    let old = g.E.BatchEngine.parts c.args.engine.now in
    held_fault old (g.E.BatchEngine.parts c.execute.new.engine) c.in-Ok.batch c.in-Err.fault c.in-Err.ensures.refused c.requires.due.idle
    (rw (ap (λ (attempts : List Attempt). length attempts) (attempts_are old c.in-Ok.batch c.args.requests.items c.in-Ok.ensures.items)) c.requires.due.room)

pub returns-in-Err-clause-stops : goal.returns-in-Err-clause-stops
returns-in-Err-clause-stops g c = (
  c.exec_fault.ensures.stops,
  told_of_thread c.in-Err.fault c.exec_fault.result c.args.line (HasAnswered g.X.Fn c.args.executor.now) c.exec_fault.ensures.names c.in-Err.ensures.answered,
)
