-- The text of a batch that was run.
use Rattle.std.proofs.Common.{◌≡◌, ℕ, ◌+◌, List, [], ◌∷◌, map, Option, Some, None, refl, sym, ap, subst, ◌∙◌}
use Rattle.std.specs.Option.{IfSome}
use Rattle.row_text.specs.declared.form.DigestForm.{DigestForm}
use Rattle.row_text.specs.Partitions.{digested_text}
use Rattle.row_text.specs.Texts.{digest}
use Rattle.catalogue.specs.Shapes.{TableShape}
use Rattle.values.specs.Database.{Database}
use Rattle.requests.specs.ProcLists.{ProcsParts}
use Rattle.requests.specs.Requests.{Call}
use Rattle.meaning.specs.Entries as meant
use Rattle.meaning.specs.Entries.{EntryShape}
use Rattle.meaning.specs.Serial.{serial_end, serial_replies}
use Rattle.sequencer.specs.declared.batch.Batch.{Batch}
use Rattle.sequencer.specs.Attempts.{attempts_of, Attempt}
use Rattle.sequencer.specs.Batches.{items_of, items_from, RequestItem}
use Rattle.sequencer.specs.Entries.{prepared}
use Rattle.report_text.specs.Report.{batch_text, entries_in, reply_lines, Transaction}
use Rattle.retries.specs.Standings.{attempts_at, after_batch, replies_at, transaction_of, transactions_at}
use Rattle.engine.specs.declared.replies.BatchDone.{BatchDone}
use Rattle.engine.specs.declared.replies.Reply.{Reply}
use Rattle.engine.specs.Batches.{entries_of, next_attempts}
use Rattle.engine.specs.Engines.{EngineParts, tables_of}
use Rattle.engine.specs.declared.fault.ExecFault.{ExecFault}
use Rattle.engine.specs.declared.fault.ExecFault.TheVariants.{Busy, LogFull, Spawn, NoMemory}
use Rattle.engine.specs.Executions.{IsExecutionOf, IsRefusal, KeepsSetting}
use Rattle.engine.specs.Replies.{first_attempt, reply_of, sent_of, sent_from, Sent}
use Rattle.running.specs.declared.transcript.Transcript.{Transcript}
use Rattle.running.specs.Batches.{KeepsDigest}
use Rattle.running.specs.Hashers.{form_of, rows_digest_of}
use Rattle.running.specs.Standings.{standing_of}
use Rattle.running.specs.Transcripts.{said_lines, with_batch_line}

-- ---- the attempts of a batch

-- the attempts of a batch that the engine takes are those at its standing
pub attempts_are : (engine : EngineParts) (batch : Batch) (calls : List Call) → items_of batch ≡ items_from 0 calls → next_attempts engine batch ≡ attempts_at (standing_of engine) calls
attempts_are engine batch calls e = ap (λ (items : List RequestItem). attempts_of engine.carried items) e

-- the entries of attempts are those of their transactions
pub entries_are : (db : Database) (attempts : List Attempt) → entries_of db attempts ≡ entries_in (map (transaction_of db) attempts)
entries_are db [] = refl
entries_are db (a ∷ attempts) = ap (λ rest. prepared db a.request ∷ rest) (entries_are db attempts)

said_as : (n : ℕ) (db : Database) (rs : List Reply) (attempts : List Attempt) (replies : List meant.Reply) → map sent_of rs ≡ sent_from n attempts → map reply_of rs ≡ replies →
    said_lines rs ≡ reply_lines n (map (transaction_of db) attempts) replies
said_as n db [] [] [] e f = refl
said_as n db [] [] (p ∷ ps) e f = absurd cc
said_as n db [] (a ∷ as_) replies e f = absurd cc
said_as n db (r ∷ rs) [] replies e f = absurd cc
said_as n db (r ∷ rs) (a ∷ as_) [] e f = absurd cc
said_as n db (r ∷ rs) (a ∷ as_) (p ∷ ps) e f =
    let head : sent_of r ≡ record { transaction = n; client = a.client; number = a.number; of = first_attempt a } = cc in
    let number : r.no ≡ n = ap (λ (s : Sent). s.transaction) head in
    let of_is : r.of ≡ first_attempt a = ap (λ (s : Sent). s.of) head in
    let reply : reply_of r ≡ p = cc in
    let rest : said_lines rs ≡ reply_lines (n + 1) (map (transaction_of db) as_) ps = said_as (n + 1) db rs as_ ps (cc) (cc) in
    rw (number, of_is, reply, rest) refl

-- ---- a batch that was run

-- what a batch leaves
module _ (old new : EngineParts) (batch : Batch) (run : BatchDone) (calls : List Call) (r : IsExecutionOf old new (next_attempts old batch) run) (e : items_of batch ≡ items_from 0 calls) where
  abbrev ran : IsExecutionOf old new (attempts_at (standing_of old) calls) run
  ran = rw (attempts_are old batch calls e) at r

  abbrev entries : entries_of old.rows (attempts_at (standing_of old) calls) ≡ entries_in (transactions_at (standing_of old) calls)
  entries = entries_are old.rows (attempts_at (standing_of old) calls)

  pub replies_are : map reply_of run.replies.items ≡ replies_at (standing_of old) calls
  replies_are = ran.replies ∙ ap (λ (es : List EntryShape). serial_replies es old.rows) entries

  -- the reply lines of the batch
  pub lines_are : said_lines run.replies.items ≡ reply_lines old.next (transactions_at (standing_of old) calls) (replies_at (standing_of old) calls)
  lines_are = said_as old.next old.rows run.replies.items (attempts_at (standing_of old) calls) _ ran.sent replies_are

  pub rows_are : new.rows ≡ serial_end (entries_in (transactions_at (standing_of old) calls)) old.rows
  rows_are = ran.rows ∙ ap (λ (es : List EntryShape). serial_end es old.rows) entries

  pub standing_is : standing_of new ≡ after_batch old.retries (standing_of old) calls
  standing_is = rw (ran.next, rows_are, ran.carried, entries) refl

pub text_is : (form : DigestForm) (tables given : List TableShape) (batch n : ℕ) (db after : Database) (transactions : List Transaction) (lines : List ℕ) →
    given ≡ tables → after ≡ serial_end (entries_in transactions) db → lines ≡ reply_lines n transactions (serial_replies (entries_in transactions) db) →
    with_batch_line form batch given after lines ≡ batch_text form tables batch n db transactions
unfolding with_batch_line batch_text
text_is form tables given batch n db after transactions lines t e f = rw (t, e, f) refl

-- the text of a batch on the engine that has run it
pub batch_text_is : (old new : EngineParts) (batch : Batch) (run : BatchDone) (calls : List Call) (form : DigestForm) (number : ℕ) (given : List TableShape) (rows : Database) (replies : List Reply) →
    IsExecutionOf old new (next_attempts old batch) run → KeepsSetting old new → items_of batch ≡ items_from 0 calls → given ≡ tables_of new → rows ≡ new.rows → replies ≡ run.replies.items →
    with_batch_line form number given rows (said_lines replies) ≡ batch_text form (tables_of old) number old.next old.rows (transactions_at (standing_of old) calls)
batch_text_is old new batch run calls form number given rows replies r same e t s f =
    text_is form (tables_of old) given number old.next old.rows rows (transactions_at (standing_of old) calls) (said_lines replies)
    (t ∙ ap (λ (p : ProcsParts). p.tables) same.procs) (s ∙ rows_are old new batch run calls r e) (ap said_lines f ∙ lines_are old new batch run calls r e)

-- the digest that is kept is that of the rows
pub keeps_digest : (new : EngineParts) (transcript : Transcript) (form : DigestForm) (given : List TableShape) (rows : Database) → rows_digest_of transcript ≡ Some (digest (digested_text form given rows)) →
    form_of transcript ≡ form → given ≡ tables_of new → rows ≡ new.rows → KeepsDigest new transcript
keeps_digest new transcript form given rows kept f t s =
    let text : List ℕ = digested_text (form_of transcript) (tables_of new) new.rows in
    let same : digest (digested_text form given rows) ≡ digest text = rw (f, t, s) refl in
    subst (λ (o : Option (List ℕ)). IfSome o (λ made. made ≡ digest text)) (sym kept) same

-- a transcript that keeps no digest
pub none_kept : (engine : EngineParts) (transcript : Transcript) → rows_digest_of transcript ≡ None → KeepsDigest engine transcript
none_kept engine transcript none =
    subst (λ (o : Option (List ℕ)). IfSome o (λ made. made ≡ digest (digested_text (form_of transcript) (tables_of engine) engine.rows))) (sym none) tt

-- an engine that has not run a batch to its end has the rows that it had
rows_held : (old new : EngineParts) (batch : Batch) (fault : ExecFault) → IsRefusal old new batch fault → new.rows ≡ old.rows
rows_held old new batch (Busy back) h = ap (λ (e : EngineParts). e.rows) h.2
rows_held old new batch (LogFull back) h = ap (λ (e : EngineParts). e.rows) h.2
rows_held old new batch Spawn h = h.1.rows
rows_held old new batch NoMemory h = h.1.rows

pub still_kept : (old new : EngineParts) (batch : Batch) (fault : ExecFault) (transcript : Transcript) → IsRefusal old new batch fault → KeepsSetting old new → KeepsDigest old transcript → KeepsDigest new transcript
still_kept old new batch fault transcript refused same kept =
    let tables : tables_of new ≡ tables_of old = ap (λ (p : ProcsParts). p.tables) same.procs in
    rw (tables, rows_held old new batch fault refused) kept
