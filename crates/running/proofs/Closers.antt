-- A log is closed batch by batch.
use Rattle.std.proofs.Common.{◌≡◌, ℕ, ◌+◌, List, [], ◌∷◌, ◌++◌, append_assoc, append-nil, length, false, Option, Result, Ok, Err, IfOk, IfErr, OnOk, refl, sym, ◌∙◌, ap}
use Rattle.std.specs.Io.KnownBytes.{Appends}
use Rattle.std.proofs.KnownBytes.{Appends-trans}
use Rattle.sha2.specs.Hashers.{Holds256}
use Rattle.devices.specs.Devices.{AppendsFront}
use Rattle.catalogue.specs.Shapes.{TableShape}
use Rattle.requests.specs.ProcLists.{ProcsParts}
use Rattle.requests.specs.Requests.{Call}
use Rattle.row_text.specs.declared.form.DigestForm.{DigestForm}
use Rattle.row_text.specs.Partitions.{digested_text}
use Rattle.row_text.specs.Texts.{digest}
use Rattle.report_text.specs.Texts.{end_line}
use Rattle.report_text.specs.Report.{end_text}
use Rattle.retries.specs.Standings.{closing, closing_within, transactions_in, Standing}
use Rattle.retries.proofs.Reported.{end_is}
use Rattle.engine.specs.Engines.{EngineParts, tables_of}
use Rattle.running.specs.declared.run_fault.RunFault.{RunFault}
use Rattle.running.specs.declared.run_fault.RunFault.TheVariants as runs
use Rattle.running.specs.declared.transcript.Transcript.{Transcript}
use Rattle.running.specs.Batches.{due_text, IsReported}
use Rattle.running.specs.Hashers.{form_of, said_of}
use Rattle.running.specs.Reported.{reply_text, with_closing, HasClosed, HasReported, IsClosing, IsCutAt}
use Rattle.running.specs.Standings.{standing_after, standing_of}
use Rattle.running.specs.Starts.{Start}
use Rattle.running.specs.Stops.{IfOfThread, IsMachineFault, IsNotOfThread}
use Rattle.running.specs.Stopped.{at_end, in_closing}
use Rattle.running.proofs.ClosingBatches.{closing_further, closing_none, next_closing}
use Rattle.running.proofs.Reported.{next_text_is, HasReported-next}

-- ---- batch by batch

pub HasClosed-none : (start : Start) (most : ℕ) (ran : List (List Call)) (engine : EngineParts) (transcript : Transcript) (sink gave : Option (List ℕ)) → most ≡ start.retries →
    HasReported start ran engine transcript sink gave → HasClosed start ran most engine transcript sink gave
HasClosed-none start most ran engine transcript sink gave e h = record {
  closers = [];
  reported = rw (append-nil ran) h;
  first = ap (λ n. closing_within start.retries n (standing_after start ran)) (sym e) ∙ ap (λ (batches : List (List Call)). closing_within start.retries most (standing_after start batches)) (sym (append-nil ran));
}

-- after the first of the batches that close a log, something is carried, so that one without calls is next
module _ (start : Start) (most left n : ℕ) (ran : List (List Call)) (engine : EngineParts) (transcript : Transcript) (sink gave : Option (List ℕ))
    (h : HasClosed start ran most engine transcript sink gave) (e : n ≡ length engine.carried) (some : ¬ (n ≡ 0)) (more : most ≡ left + 1) where
  abbrev before : List (List Call)
  before = ran ++ h.closers

  carries : ¬ (length (standing_after start before).carried ≡ 0)
  carries none = some (e ∙ ap (λ (s : Standing). length s.carried) h.reported.standing_is ∙ none)

  all : before ++ [] ∷ [] ≡ ran ++ (h.closers ++ [] ∷ [])
  all = append_assoc ran h.closers ([] ∷ [])

  next : closing_within start.retries most (standing_after start before) ≡ [] ∷ closing_within start.retries left (standing_after start (before ++ [] ∷ []))
  next = next_closing start ran h.closers most left carries more

  -- it was run and reported
  pub HasClosed-next : (after : EngineParts) (after_it : Transcript) (given : Option (List ℕ)) → after.procs ≡ engine.procs → after.retries ≡ engine.retries → form_of after_it ≡ form_of transcript →
      IsReported engine after transcript after_it gave given [] → HasClosed start ran left after after_it sink given
  HasClosed-next after after_it given same same_retries same_form reported = record {
    closers = h.closers ++ [] ∷ [];
    reported = rw all at (HasReported-next start before [] engine after transcript after_it sink gave given h.reported same same_retries same_form reported);
    first = closing_further start ran h.closers most left carries more h.first;
  }

  -- or a fault stopped it
  pub HasClosed-cut : (given : Option (List ℕ)) (fault : RunFault) → AppendsFront gave given (due_text engine transcript []) → IsCutAt in_closing start ran sink given fault
  HasClosed-cut given fault front = record {
    closers = h.closers;
    ends = refl;
    closed = (
      closing_within start.retries left (standing_after start (before ++ [] ∷ [])),
      h.first ∙ ap (λ (rest : List (List Call)). h.closers ++ rest) next,
    );
    written = (gave, h.reported.text_is, rw (next_text_is start before [] engine transcript sink gave h.reported) at front);
  }

-- nothing is carried any more, or no batch may be to come
pub HasClosed-end : (start : Start) (most : ℕ) (ran : List (List Call)) (engine : EngineParts) (transcript : Transcript) (sink gave : Option (List ℕ))
    (h : HasClosed start ran most engine transcript sink gave) → closing_within start.retries most (standing_after start (ran ++ h.closers)) ≡ [] →
    HasReported start (with_closing start ran) engine transcript sink gave
HasClosed-end start most ran engine transcript sink gave h none =
    let closers : closing start.retries (standing_after start ran) ≡ h.closers = h.first ∙ ap (λ (rest : List (List Call)). h.closers ++ rest) none ∙ append-nil h.closers in
    rw closers h.reported

pub HasClosed-uncarried : (start : Start) (most n : ℕ) (ran : List (List Call)) (engine : EngineParts) (transcript : Transcript) (sink gave : Option (List ℕ)) →
    HasClosed start ran most engine transcript sink gave → n ≡ length engine.carried → n ≡ 0 → HasReported start (with_closing start ran) engine transcript sink gave
HasClosed-uncarried start most n ran engine transcript sink gave h e none =
    HasClosed-end start most ran engine transcript sink gave h
    (closing_none start.retries most (standing_after start (ran ++ h.closers)) (sym (e ∙ ap (λ (s : Standing). length s.carried) h.reported.standing_is) ∙ none))

pub HasClosed-spent : (start : Start) (most : ℕ) (ran : List (List Call)) (engine : EngineParts) (transcript : Transcript) (sink gave : Option (List ℕ)) →
    HasClosed start ran most engine transcript sink gave → most ≡ 0 → HasReported start (with_closing start ran) engine transcript sink gave
HasClosed-spent start most ran engine transcript sink gave h none =
    HasClosed-end start most ran engine transcript sink gave h (ap (λ n. closing_within start.retries n (standing_after start (ran ++ h.closers))) none)

-- ---- the end line

pub end_line_is : (start : Start) (ran : List (List Call)) (engine : EngineParts) (transcript : Transcript) (sink gave : Option (List ℕ)) →
    HasReported start ran engine transcript sink gave →
    end_line engine.next (digest (digested_text (form_of transcript) (tables_of engine) engine.rows)) (digest (reply_text start ran)) ≡ end_text false start.digest start.procs.tables start.rows (transactions_in start.retries start.rows ran)
end_line_is start ran engine transcript sink gave h =
    let line : DigestForm → List TableShape → Standing → List ℕ = λ form tables s. end_line s.next (digest (digested_text form tables s.rows)) (digest (reply_text start ran)) in
    ap (λ (form : DigestForm). line form (tables_of engine) (standing_of engine)) h.form_is
    ∙ ap (λ (p : ProcsParts). line start.digest p.tables (standing_of engine)) h.procs_are ∙ ap (line start.digest start.procs.tables) h.standing_is ∙ sym (end_is start.digest start.procs.tables start.retries start.rows ran)

on_ok : (r : Result ℕ RunFault) (gave given : Option (List ℕ)) (text same : List ℕ) → text ≡ same → OnOk r (Appends gave given text) → OnOk r (Appends gave given same)
on_ok (Ok n) gave given text same e h = rw e at h
on_ok (Err fault) gave given text same e h = tt

-- all batches that close the log are reported, and the end line is written or not
ended : (r : Result ℕ RunFault) (start : Start) (ran : List (List Call)) (engine : EngineParts) (transcript : Transcript) (sink gave given : Option (List ℕ)) →
    HasReported start (with_closing start ran) engine transcript sink gave → IfOk r (λ n. n ≡ engine.next) →
    OnOk r (Appends gave given (end_text false start.digest start.procs.tables start.rows (transactions_in start.retries start.rows (with_closing start ran)))) →
    AppendsFront gave given (end_text false start.digest start.procs.tables start.rows (transactions_in start.retries start.rows (with_closing start ran))) → IsNotOfThread r → IsClosing start ran sink given r
ended (Ok n) start ran engine transcript sink gave given h count text front threadless = record {
  count = count ∙ ap (λ (s : Standing). s.next) h.standing_is;
  text = Appends-trans sink gave given _ _ h.text_is text;
  stop = tt;
}
ended (Err fault) start ran engine transcript sink gave given h count text front threadless = record {
  count = tt;
  text = tt;
  stop = record {
    stage = at_end;
    all_read = tt;
    cut = record {
      closers = closing start.retries (standing_after start ran);
      ends = (refl, threadless);
      closed = refl;
      written = (gave, h.text_is, front);
    };
  };
}

pub IsClosing-end : (r : Result ℕ RunFault) (start : Start) (ran : List (List Call)) (engine : EngineParts) (transcript : Transcript) (sink gave given : Option (List ℕ)) →
    HasReported start (with_closing start ran) engine transcript sink gave → IfOk r (λ n. n ≡ engine.next) →
    ((m : List ℕ) → Holds256 (said_of transcript) m → OnOk r (Appends gave given (end_line engine.next (digest (digested_text (form_of transcript) (tables_of engine) engine.rows)) (digest m)))) →
    ((m : List ℕ) → Holds256 (said_of transcript) m → AppendsFront gave given (end_line engine.next (digest (digested_text (form_of transcript) (tables_of engine) engine.rows)) (digest m))) →
    IsNotOfThread r → IsClosing start ran sink given r
IsClosing-end r start ran engine transcript sink gave given h count text front threadless =
    let batches : List (List Call) = with_closing start ran in
    let line = end_line_is start batches engine transcript sink gave h in
    ended r start ran engine transcript sink gave given h count
    (on_ok r gave given _ _ line (text (reply_text start batches) h.said_is)) (rw line at (front (reply_text start batches) h.said_is)) threadless

-- a fault stopped the batches that close the log
pub IsClosing-cut : (start : Start) (ran : List (List Call)) (sink gave : Option (List ℕ)) (fault : RunFault) →
    IsCutAt in_closing start ran sink gave fault → IsClosing start ran sink gave (Err fault)
IsClosing-cut start ran sink gave fault cut = record {
  count = tt;
  text = tt;
  stop = record {
    stage = in_closing;
    all_read = tt;
    cut = cut;
  };
}

-- ---- however the end line was written

pub where_ok : {T E P : Type 0} (r : Result T E) → P → OnOk r P
where_ok (Ok x) p = p
where_ok (Err e) p = tt

pub stops_unthreaded : (r : Result ℕ RunFault) (line : ℕ) (P : Type 0) → IfErr r (IsMachineFault line) → IsNotOfThread r → IfErr r (λ e. IsMachineFault line e × IfOfThread e P)
stops_unthreaded (Ok n) line P stops threadless = tt
stops_unthreaded (Err (runs.Log fault)) line P stops threadless = (stops, tt)
stops_unthreaded (Err (runs.Spawn at)) line P stops threadless = absurd threadless
