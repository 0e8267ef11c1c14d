-- What was executed and reported, one batch more, and how a run ends.
use Rattle.std.proofs.Common.{◌≡◌, ℕ, ◌+◌, ◌<◌, List, [], ◌∷◌, ◌++◌, append-nil, append_assoc, length, take, drop, get_or, false, true, Option, Some, Result, Ok, Err, IfErr, OnOk, refl, sym, ◌∙◌, ap}
use Rattle.std.proofs.lemmas.List.{take-append-drop, take_more}
use Rattle.std.specs.Io.KnownBytes.{Appends}
use Rattle.sha2.specs.Hashers.{Holds256}
use Rattle.devices.specs.Devices.{AppendsFront}
use Rattle.requests.specs.Requests.{Call}
use Rattle.batch_log.specs.declared.fault.LogFault.{LogFault}
use Rattle.batch_log.specs.declared.fault.LogFaultKind.{LogFaultKind}
use Rattle.batch_log.specs.declared.fault.LogFaultKind.TheVariants.{Memory}
use Rattle.batch_log.specs.Faults.{is_io, IsOfLine}
use Rattle.batch_log.specs.Places.{IsFaulty, IsWhole}
use Rattle.row_text.specs.declared.form.DigestForm.{DigestForm}
use Rattle.row_text.specs.Partitions.{digested_text}
use Rattle.row_text.specs.Texts.{digest}
use Rattle.report_text.specs.Texts.{end_line}
use Rattle.report_text.specs.Report.{end_text}
use Rattle.retries.specs.Standings.{start_of, transactions_in, Standing}
use Rattle.retries.proofs.Reported.{texts_grown}
use Rattle.engine.specs.Engines.{EngineParts, tables_of}
use Rattle.engine.specs.Executions.{KeepsSetting}
use Rattle.running.specs.Standings.{standing_after}
use Rattle.running.specs.declared.transcript.Transcript.{Transcript}
use Rattle.running.specs.Batches.{due_text, IsReported}
use Rattle.running.specs.Hashers.{batch_of, form_of, said_of}
use Rattle.running.specs.Reported.{reply_text, with_closing}
use Rattle.running.specs.Reports.{report_of}
use Rattle.running.specs.Starts.{Start}
use Rattle.running.specs.Stopped.{next_text, texts_of}
use Rattle.running.proofs.Closers.{end_line_is}
use Rattle.running.proofs.Reported as running
use Rattle.session.specs.declared.report.Report.{Report}
use Rattle.session.specs.Ends.{IsRunInto, IsWholeRun}
use Rattle.session.specs.Reports.{waiting_in}
use Rattle.session.specs.declared.replies.Replies.{Replies}
use Rattle.session.specs.Replies.{all_replies, kept_in, replies_after, replies_of, AreFirstReplies, AreReplies, NumberedReply}
use Rattle.session.specs.Works.{HasReplied, HasReported}
use Rattle.session.specs.Writes.{IsBeginning}
use Rattle.session.proofs.Growing.{begins_onward}
use Rattle.session.proofs.Told.{all_of, first_of_all, replies-faulty, replies-whole}
use Rattle.session.proofs.Turns.{calls-whole, counted-whole, report-faulty, report-whole}

-- nothing was executed
pub HasReported-start : (start : Start) (engine : EngineParts) (transcript : Transcript) (report : Report) → engine.procs ≡ start.procs → engine.retries ≡ start.retries → engine.rows ≡ start.rows → engine.next ≡ 0 →
    engine.carried ≡ [] → batch_of transcript ≡ 1 → Holds256 (said_of transcript) [] → form_of transcript ≡ start.digest → waiting_in report ≡ [] → HasReported start [] [] engine transcript report
HasReported-start start engine transcript report p k r n c b s f w =
    let none = running.HasReported-none engine start.digest transcript (Some []) n c b s f in
    record { procs_are = p; retries_are = k; standing_is = none.standing_is ∙ ap start_of r; form_is = f; batch_is = none.batch_is; said_is = s; text_is = w }

-- what was drained before doesn't matter to what was written
drained_before : (drained old new text : List ℕ) → Appends (Some old) (Some new) text → Appends (Some (drained ++ old)) (Some (drained ++ new)) text
drained_before drained old new text h = ap (λ (x : List ℕ). drained ++ x) h ∙ sym (append_assoc drained old text)

reported_before : (drained old new : List ℕ) (engine after : EngineParts) (t u : Transcript) (calls : List Call) → IsReported engine after t u (Some old) (Some new) calls →
    IsReported engine after t u (Some (drained ++ old)) (Some (drained ++ new)) calls
reported_before drained old new engine after t u calls h = record {
  idle = h.idle;
  standing = h.standing;
  batch = h.batch;
  said = h.said;
  text = drained_before drained old new (due_text engine t calls) h.text;
  digest_kept = h.digest_kept;
}

-- the text of a batch after those of the batches before it
batch_after : (start : Start) (ended : List (List Call)) (calls : List Call) (drained : List ℕ) (old : EngineParts) (t : Transcript) (r : Report) → HasReported start ended drained old t r →
    (drained ++ waiting_in r) ++ due_text old t calls ≡ texts_of start (ended ++ calls ∷ [])
batch_after start ended calls drained old t r h =
    let next = running.next_text_is start ended calls old t (Some []) (Some (drained ++ waiting_in r)) h in
    ap (λ (x : List ℕ). (drained ++ waiting_in r) ++ x) next ∙ ap (λ (x : List ℕ). x ++ next_text start ended calls) h.text_is ∙ sym (texts_grown start.digest start.procs.tables start.retries start.rows ended calls)

-- a batch was executed and reported
pub reported_next : (start : Start) (ended : List (List Call)) (calls : List Call) (drained : List ℕ) (old new : EngineParts) (t u : Transcript) (r s : Report) →
    HasReported start ended drained old t r → KeepsSetting old new → form_of u ≡ form_of t → IsReported old new t u (Some (waiting_in r)) (Some (waiting_in s)) calls →
    HasReported start (ended ++ calls ∷ []) drained new u s
reported_next start ended calls drained old new t u r s h same f reported =
    running.HasReported-next start ended calls old new t u (Some []) (Some (drained ++ waiting_in r)) (Some (drained ++ waiting_in s))
    h same.procs same.retries f (reported_before drained (waiting_in r) (waiting_in s) old new t u calls reported)

-- bytes that begin a text begin the whole
pub front_begins : (old new text whole : List ℕ) → AppendsFront (Some old) (Some new) text → old ++ text ≡ whole → IsBeginning new whole
front_begins old new text whole f e =
    let front : List ℕ = f.0 in let rest : List ℕ = f.1 in
    (rest, sym e ∙ ap (λ (x : List ℕ). old ++ x) f.2 ∙ sym (append_assoc old front rest) ∙ ap (λ (x : List ℕ). x ++ rest) (sym f.3))

pub drained_front : (drained old new text : List ℕ) → AppendsFront (Some old) (Some new) text → AppendsFront (Some (drained ++ old)) (Some (drained ++ new)) text
drained_front drained old new text f = (f.0, f.1, f.2, drained_before drained old new f.0 f.3)

-- what was written keeps what waited
pub front_keeps : (old new text : List ℕ) → AppendsFront (Some old) (Some new) text → IsBeginning old new
front_keeps old new text f = (f.0, f.3)

-- a beginning of the batch's report was written
pub front-next : (start : Start) (ended : List (List Call)) (calls : List Call) (drained : List ℕ) (old : EngineParts) (t : Transcript) (r s : Report) → HasReported start ended drained old t r →
    AppendsFront (Some (waiting_in r)) (Some (waiting_in s)) (due_text old t calls) → IsBeginning (drained ++ waiting_in s) (texts_of start (ended ++ calls ∷ []))
front-next start ended calls drained old t r s h f =
    front_begins (drained ++ waiting_in r) (drained ++ waiting_in s) (due_text old t calls) _ (drained_front drained (waiting_in r) (waiting_in s) (due_text old t calls) f) (batch_after start ended calls drained old t r h)

-- ---- answers of a call

pub on_ok : {T E : Type 0} (answer : Result T E) (A B : Type 0) → OnOk answer A → (A → B) → OnOk answer B
on_ok (Ok x) A B a f = f a
on_ok (Err e) A B a f = tt

pub on_ok_both : {T E : Type 0} (answer : Result T E) (A B C : Type 0) → OnOk answer A → OnOk answer B → (A → B → C) → OnOk answer C
on_ok_both (Ok x) A B C a b f = f a b
on_ok_both (Err e) A B C a b f = tt

pub on_err : {T E : Type 0} (answer : Result T E) (P Q : E → Type 0) → IfErr answer P → ((e : E) → P e → Q e) → IfErr answer Q
on_err (Ok x) P Q p f = tt
on_err (Err e) P Q p f = f e p

pub on_both : {T E : Type 0} (answer : Result T E) (P Q R : E → Type 0) → IfErr answer P → IfErr answer Q → ((e : E) → P e → Q e → R e) → IfErr answer R
on_both (Ok x) P Q R p q f = tt
on_both (Err e) P Q R p q f = f e p q

-- ---- what stays

-- a setting is kept through two steps
pub keeps_setting : (old between new : EngineParts) (before then_ after : DigestForm) → KeepsSetting old between × (then_ ≡ before) → KeepsSetting between new × (after ≡ then_) →
    KeepsSetting old new × (after ≡ before)
keeps_setting old between new before then_ after a b = (
  record { procs = b.0.procs ∙ a.0.procs; settings = b.0.settings ∙ a.0.settings; retries = b.0.retries ∙ a.0.retries },
  b.1 ∙ a.1,
)

-- ---- the bytes of a log, one by one

fed_again : (fed more xs : List ℕ) (i d : ℕ) → i < length xs → ((fed ++ take i xs) ++ get_or xs i d ∷ []) ++ (drop (i + 1) xs ++ more) ≡ (fed ++ xs) ++ more
fed_again fed more xs i d few =
    let after : List ℕ = drop (i + 1) xs in
    ap (λ (x : List ℕ). x ++ (after ++ more)) (append_assoc fed (take i xs) (get_or xs i d ∷ []) ∙ ap (λ (x : List ℕ). fed ++ x) (sym (take_more xs i d few)))
    ∙ sym (append_assoc (fed ++ take (i + 1) xs) after more)
    ∙ ap (λ (x : List ℕ). x ++ more) (append_assoc fed (take (i + 1) xs) after ∙ ap (λ (x : List ℕ). fed ++ x) (take-append-drop (i + 1) xs))

-- a run that stops at a byte of these stops in them
pub stopped_at_byte : (start : Start) (fed more xs reported : List ℕ) (replies : Option (List NumberedReply)) (i d : ℕ) (fault : LogFault) → i < length xs →
    IsRunInto start (((fed ++ take i xs) ++ get_or xs i d ∷ []) ++ (drop (i + 1) xs ++ more)) reported replies fault → IsRunInto start ((fed ++ xs) ++ more) reported replies fault
stopped_at_byte start fed more xs reported replies i d fault few h = rw (fed_again fed more xs i d few) at h

-- ---- how a run ends

no_line : (kind : LogFaultKind) → kind ≡ Memory → (A : Type 0) → IsOfLine kind → A
no_line kind e A of = let bad : true ≡ false = rw e at of in absurd cc

memory_is_none : (kind : LogFaultKind) → kind ≡ Memory → is_io kind ≡ false
memory_is_none kind e = rw e refl

-- an allocation failed, and what was reported is a beginning of the report
pub stopped_with : (start : Start) (log reported : List ℕ) (replies : Option (List NumberedReply)) (fault : LogFault) → fault.kind ≡ Memory → IsBeginning reported (report_of start log) →
    AreFirstReplies replies (replies_of start log) → IsRunInto start log reported replies fault
stopped_with start log reported replies fault m f g = record { first = no_line fault.kind m _; front = f; replied = g; no_device = memory_is_none fault.kind m }

-- an allocation failed in a batch
pub stopped_in_batch : (start : Start) (log reported : List ℕ) (replies : Option (List NumberedReply)) (ran ended : List (List Call)) (fault : LogFault) → fault.kind ≡ Memory →
    IsBeginning reported (texts_of start ended) → IsBeginning (texts_of start ended) (report_of start log) → AreReplies replies (replies_after start ran) → IsBeginning (replies_after start ran) (replies_of start log) →
    IsRunInto start log reported replies fault
stopped_in_batch start log reported replies ran ended fault m f g r b =
    stopped_with start log reported replies fault m (begins_onward reported (texts_of start ended) (report_of start log) f g) (first_of_all replies _ _ r b)

-- a fault was found, or an allocation failed, in reading
pub stopped_reading : (start : Start) (log reported : List ℕ) (replies : Option (List NumberedReply)) (ended : List (List Call)) (fault : LogFault) →
    (IsOfLine fault.kind → IsFaulty start.procs start.retries fault ended log) → is_io fault.kind ≡ false →
    reported ≡ texts_of start ended → IsBeginning (texts_of start ended) (report_of start log) → AreReplies replies (replies_after start ended) → IsBeginning (replies_after start ended) (replies_of start log) →
    IsRunInto start log reported replies fault
stopped_reading start log reported replies ended fault f n r g told b = record {
  first = λ of. ((f of).first, r ∙ report-faulty start log ended fault (f of), all_of replies _ _ told (replies-faulty start log ended fault (f of)));
  front = rw r g;
  replied = first_of_all replies _ _ told b;
  no_device = n;
}

-- ---- the batches that close a log

-- ---- the end line

-- the end line over an engine's rows
abbrev pub end_over : EngineParts → Transcript → List ℕ → List ℕ
end_over engine t lines = end_line engine.next (digest (digested_text (form_of t) (tables_of engine) engine.rows)) (digest lines)

-- all batches of a whole log, and those that close it, were executed and reported
module _ (start : Start) (log drained : List ℕ) (ended : List (List Call)) (engine : EngineParts) (t : Transcript) (r s : Report)
    (h : HasReported start (with_closing start ended) drained engine t r) (w : IsWhole start.procs start.retries [] ended log) where
  abbrev closed : List (List Call)
  closed = with_closing start ended

  abbrev due : List ℕ
  due = end_over engine t (reply_text start closed)

  report_is_due : report_of start log ≡ (drained ++ waiting_in r) ++ due
  report_is_due =
      report-whole start log ended w ∙ ap (λ (x : List ℕ). x ++ end_text false start.digest start.procs.tables start.rows (transactions_in start.retries start.rows closed)) (sym h.text_is)
      ∙ ap (λ (x : List ℕ). (drained ++ waiting_in r) ++ x) (sym (end_line_is start closed engine t (Some []) (Some (drained ++ waiting_in r)) h))

  -- it was written
  pub whole_where_written : (passed : List NumberedReply) (replies : Replies) (n : ℕ) → n ≡ engine.next → HasReplied start closed passed replies → Appends (Some (waiting_in r)) (Some (waiting_in s)) due →
      IsWholeRun start log (drained ++ waiting_in s) (all_replies passed (kept_in replies)) engine.rows n
  whole_where_written passed replies n c told text = record {
    sound = w.fault;
    report = drained_before drained (waiting_in r) (waiting_in s) due text ∙ sym report_is_due;
    replied = all_of _ _ _ told (replies-whole start log ended w);
    left = ap (λ (x : Standing). x.rows) h.standing_is ∙ sym (ap (λ (bs : List (List Call)). (standing_after start bs).rows) (calls-whole start log ended w));
    counted = c ∙ ap (λ (x : Standing). x.next) h.standing_is ∙ sym (counted-whole start log ended w);
  }

  -- or a beginning of it
  pub stopped_at_end : (passed : List NumberedReply) (replies : Replies) (fault : LogFault) → fault.kind ≡ Memory → HasReplied start closed passed replies → AppendsFront (Some (waiting_in r)) (Some (waiting_in s)) due →
      IsRunInto start log (drained ++ waiting_in s) (all_replies passed (kept_in replies)) fault
  stopped_at_end passed replies fault m told f =
      stopped_with start log (drained ++ waiting_in s) _ fault m
      (front_begins (drained ++ waiting_in r) (drained ++ waiting_in s) due _ (drained_front drained (waiting_in r) (waiting_in s) due f) (sym report_is_due))
      (first_of_all _ _ _ told (let same = replies-whole start log ended w in ([], sym same ∙ sym (append-nil _))))
