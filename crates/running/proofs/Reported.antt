-- What was reported of batches one after another.
use Rattle.std.proofs.Common.{◌≡◌, ℕ, zero, suc, ◌+◌, ◌≤◌, ◌^◌, List, [], ◌∷◌, ◌++◌, append_assoc, append-nil, length, Option, refl, sym, ◌∙◌, ap, arith}
use Rattle.std.proofs.KnownBytes.{Appends-nil, Appends-trans}
use Rattle.std.proofs.lemmas.List.{length-append}
use Rattle.std.proofs.lemmas.List.Sums.{sum_by-append}
use Rattle.sha2.specs.Hashers.{Holds256}
use Rattle.catalogue.specs.Shapes.{TableShape}
use Rattle.values.specs.Database.{Database}
use Rattle.row_text.specs.declared.form.DigestForm.{DigestForm}
use Rattle.requests.specs.ProcLists.{ProcsParts}
use Rattle.requests.specs.Requests.{Call}
use Rattle.batch_log.specs.Log.{most_calls}
use Rattle.report_text.specs.Report.{batch_text, next_batch, reply_lines}
use Rattle.retries.specs.Standings.{attempts_at, after_batch, call_count, replies_at, start_of, transactions_at, after_batches, Standing}
use Rattle.retries.proofs.Followed.{after_batches-append}
use Rattle.retries.proofs.Reported.{texts_grown}
use Rattle.retries.proofs.Serial.{lines_grown}
use Rattle.retries.proofs.Spent.{at_most_next, fits}
use Rattle.engine.specs.Engines.{EngineParts}
use Rattle.running.specs.declared.transcript.Transcript.{Transcript}
use Rattle.running.specs.Batches.{due_text, IsReported}
use Rattle.running.specs.Hashers.{batch_of, form_of, said_of}
use Rattle.running.specs.Reported.{reply_text, HasReported, IsAfterLog}
use Rattle.running.specs.Standings.{standing_of}
use Rattle.running.specs.Starts.{start_on, Start}
use Rattle.running.specs.Stopped.{next_text, texts_of}

-- ---- nothing has run

first_number : 1 ≡ next_batch 0
first_number = omega arith

at_start : (engine : EngineParts) → engine.next ≡ 0 → engine.carried ≡ [] → standing_of engine ≡ start_of engine.rows
at_start engine e f = rw (e, f) refl

pub HasReported-none : (engine : EngineParts) (form : DigestForm) (transcript : Transcript) (sink : Option (List ℕ)) → engine.next ≡ 0 → engine.carried ≡ [] → batch_of transcript ≡ 1 → Holds256 (said_of transcript) [] →
    form_of transcript ≡ form → HasReported (start_on engine form) [] engine transcript sink sink
HasReported-none engine form transcript sink e f b h is = record {
  procs_are = refl;
  retries_are = refl;
  standing_is = at_start engine e f;
  form_is = is;
  batch_is = b ∙ first_number;
  said_is = h;
  text_is = Appends-nil sink;
}

-- ---- one more batch

number_next : (b n m : ℕ) → b ≡ next_batch n → m ≡ n + 1 → next_batch b ≡ next_batch m
number_next b n m e f = omega arith

pub standing_next : (retries : ℕ) (db : Database) (ran : List (List Call)) (calls : List Call) → after_batches retries (start_of db) (ran ++ calls ∷ []) ≡ after_batch retries (after_batches retries (start_of db) ran) calls
standing_next retries db ran calls = after_batches-append retries (start_of db) ran (calls ∷ [])

abbrev text_from : DigestForm → List TableShape → ℕ → Standing → List Call → List ℕ
text_from form tables batch standing calls = batch_text form tables batch standing.next standing.rows (transactions_at standing calls)

abbrev lines_from : Standing → List Call → List ℕ
lines_from standing calls = reply_lines standing.next (transactions_at standing calls) (replies_at standing calls)

-- the text of a batch on the engine is that of the next batch
pub next_text_is : (start : Start) (ran : List (List Call)) (calls : List Call) (engine : EngineParts) (transcript : Transcript) (sink gave : Option (List ℕ)) →
    HasReported start ran engine transcript sink gave → due_text engine transcript calls ≡ next_text start ran calls
next_text_is start ran calls engine transcript sink gave h =
    ap (λ (p : ProcsParts). text_from (form_of transcript) p.tables (batch_of transcript) (standing_of engine) calls) h.procs_are
    ∙ ap (λ (form : DigestForm). text_from form start.procs.tables (batch_of transcript) (standing_of engine) calls) h.form_is
    ∙ ap (λ b. text_from start.digest start.procs.tables b (standing_of engine) calls) h.batch_is
    ∙ ap (λ (s : Standing). text_from start.digest start.procs.tables (next_batch (length ran)) s calls) h.standing_is

-- a batch ran and was reported
pub HasReported-next : (start : Start) (ran : List (List Call)) (calls : List Call) (engine after : EngineParts) (transcript after_it : Transcript) (sink gave given : Option (List ℕ)) →
    HasReported start ran engine transcript sink gave → after.procs ≡ engine.procs → after.retries ≡ engine.retries → form_of after_it ≡ form_of transcript →
    IsReported engine after transcript after_it gave given calls → HasReported start (ran ++ calls ∷ []) after after_it sink given
HasReported-next start ran calls engine after transcript after_it sink gave given h e r f reported =
    let grown : reply_text start ran ++ reply_lines engine.next (transactions_at (standing_of engine) calls) (replies_at (standing_of engine) calls) ≡ reply_text start (ran ++ calls ∷ []) =
    ap (λ (s : Standing). reply_text start ran ++ lines_from s calls) h.standing_is ∙ sym (lines_grown start.retries start.rows ran calls) in
    let texts : texts_of start ran ++ due_text engine transcript calls ≡ texts_of start (ran ++ calls ∷ []) =
    ap (λ t. texts_of start ran ++ t) (next_text_is start ran calls engine transcript sink gave h) ∙ sym (texts_grown start.digest start.procs.tables start.retries start.rows ran calls) in
    record {
      procs_are = e ∙ h.procs_are;
      retries_are = r ∙ h.retries_are;
      standing_is = reported.standing ∙ ap (λ k. after_batch k (standing_of engine) calls) h.retries_are ∙ ap (λ (s : Standing). after_batch start.retries s calls) h.standing_is ∙ sym (standing_next start.retries start.rows ran calls);
      form_is = f ∙ h.form_is;
      batch_is = reported.batch ∙ number_next (batch_of transcript) (length ran) _ h.batch_is (length-append ran (calls ∷ []));
      said_is = rw grown at (reported.said _ h.said_is);
      text_is = rw texts at (Appends-trans sink gave given _ _ h.text_is reported.text);
    }

-- ---- what was reported first

-- the texts of some batches are a beginning of those of more
pub texts_further : (start : Start) (ran more : List (List Call)) → (rest : List ℕ) × (texts_of start (ran ++ more) ≡ texts_of start ran ++ rest)
texts_further start ran [] = ([], ap (texts_of start) (append-nil ran) ∙ sym (append-nil (texts_of start ran)))
texts_further start ran (calls ∷ more) =
    let further = texts_further start (ran ++ calls ∷ []) more in (
      next_text start ran calls ++ further.0,
      ap (texts_of start) (sym (append_assoc ran (calls ∷ []) more)) ∙ further.1 ∙ ap (λ text. text ++ further.0) (texts_grown start.digest start.procs.tables start.retries start.rows ran calls)
          ∙ append_assoc (texts_of start ran) (next_text start ran calls) further.0,
    )

-- and so are they with the text of the next batch
pub texts_next : (start : Start) (ran : List (List Call)) (calls : List Call) (more : List (List Call)) →
    (rest : List ℕ) × (texts_of start (ran ++ calls ∷ more) ≡ (texts_of start ran ++ next_text start ran calls) ++ rest)
texts_next start ran calls more =
    let further = texts_further start (ran ++ calls ∷ []) more in
    (further.0, ap (texts_of start) (sym (append_assoc ran (calls ∷ []) more)) ∙ further.1 ∙ ap (λ text. text ++ further.0) (texts_grown start.digest start.procs.tables start.retries start.rows ran calls))

-- ---- the number of calls

pub calls_grown : (ran : List (List Call)) (calls : List Call) → call_count (ran ++ calls ∷ []) ≡ call_count ran + length calls
calls_grown ran calls = sum_by-append (λ (calls : List Call). length calls) ran (calls ∷ []) ∙ omega arith

-- a log has room for its next batch, whatever is carried to it
pub room_after : (retries : ℕ) (db : Database) (ran : List (List Call)) (calls : List Call) → retries ≤ 2 → call_count ran + length calls ≤ most_calls retries →
    (after_batches retries (start_of db) ran).next + length (attempts_at (after_batches retries (start_of db) ran) calls) ≤ 2 ^ 48
room_after zero db ran calls few h = let most = at_most_next 0 db ran calls in omega (arith, most, h)
room_after (suc retries) db ran calls few h = fits (suc retries) db ran calls (omega arith) h

pub room_at : (retries : ℕ) (standing : Standing) (db : Database) (ran : List (List Call)) (calls : List Call) → standing ≡ after_batches retries (start_of db) ran → retries ≤ 2 →
    call_count ran + length calls ≤ most_calls retries → standing.next + length (attempts_at standing calls) ≤ 2 ^ 48
room_at retries standing db ran calls e few h = rw e (room_after retries db ran calls few h)

pub room_after_log : (retries : ℕ) (standing : Standing) → retries ≤ 2 → IsAfterLog retries standing → standing.next + length (attempts_at standing []) ≤ 2 ^ 48
room_after_log retries standing few h = let calls = h.few in room_at retries standing h.db h.ran [] h.standing_is few (omega (arith, calls))

-- a batch without calls
pub IsAfterLog-next : (retries : ℕ) (standing after : Standing) → IsAfterLog retries standing → after ≡ after_batch retries standing [] → IsAfterLog retries after
IsAfterLog-next retries standing after h e = record {
  db = h.db;
  ran = h.ran ++ [] ∷ [];
  standing_is = e ∙ ap (λ (s : Standing). after_batch retries s []) h.standing_is ∙ sym (standing_next retries h.db h.ran []);
  few = let few = h.few in omega (arith, calls_grown h.ran []);
}

-- the log's own batches
pub log_after : (retries total most : ℕ) (standing : Standing) (db : Database) (ran : List (List Call)) → standing ≡ after_batches retries (start_of db) ran → total ≡ call_count ran → total ≤ most → most ≡ most_calls retries → IsAfterLog retries standing
log_after retries total most standing db ran e f few g = record { db = db; ran = ran; standing_is = e; few = omega arith }

pub room_in_log : (retries total total2 most : ℕ) (standing : Standing) (db : Database) (ran : List (List Call)) (calls : List Call) → standing ≡ after_batches retries (start_of db) ran → retries ≤ 2 → total ≡ call_count ran →
    total2 ≡ total + length calls → total2 ≤ most → most ≡ most_calls retries → standing.next + length (attempts_at standing calls) ≤ 2 ^ 48
room_in_log retries total total2 most standing db ran calls e tries f n few g = room_at retries standing db ran calls e tries (omega arith)
