-- Places of a log, and what is ended and fed there.
use Rattle.std.proofs.Common.{◌≡◌, ◌≢◌, ℕ, ◌+◌, ◌<◌, List, [], ◌∷◌, ◌++◌, append_assoc, append-nil, length, map, true, false, Option, None, Some, Result, Ok, Err, refl, sym, ◌∙◌, ap, arith}
use Rattle.std.specs.Prelude.{Vec, IfOk, IfErr, IfSome, IsNone, OnOk, ⊤}
use Rattle.std.specs.declared.alloc.Global.{Global}
use Rattle.std.proofs.lemmas.List.{length-append, nil_from_length}
use Rattle.devices.specs.Lines.{has_newline, is_newline, newline, next_number}
use Rattle.devices.proofs.Lines.{has_newline-append, numbered_lines-newline, numbered_lines-last}
use Rattle.proclang_types.specs.Procedures.{ProcParts}
use Rattle.requests.specs.ProcLists.{ProcsParts}
use Rattle.requests.specs.Requests as requests
use Rattle.batch_log.specs.declared.fault.LogFault.{LogFault}
use Rattle.batch_log.specs.declared.fault.LogFaultKind.{LogFaultKind}
use Rattle.batch_log.specs.declared.line.LogLine.{LogLine}
use Rattle.batch_log.specs.declared.line.LogLine.TheVariants.{Call, Cut}
use Rattle.batch_log.specs.Lines.{line_said, lines_said, Lines}
use Rattle.batch_log.specs.Log.{batches_of, cut_apart, first_fault, is_room, last_batch, limited, whole_batches, within, IsEnd, IsFault}
use Rattle.batch_log.proofs.Batches.{Fault-step, IsEnd-here, NextBatch-cut, NextBatch-last, Reads, Reads-call, Reads-none, Reads-step}
use Rattle.batch_log.specs.Faults.{IsOfLine}
use Rattle.batch_log.specs.Calls.{with_call}
use Rattle.batch_log.specs.FeedSteps.{AddsCall, BreaksRule, EndsBatch}
use Rattle.batch_log.specs.Places.{after_calls, said_from, batches_said, fault_said, IsAt, IsFaulty, IsWhole, Place}

abbrev Calls : Type 0
Calls = List requests.Call

-- ---- calls, and then lines

reads_on : (es : Lines) (before calls : Calls) (lines : Lines) → Reads es before (after_calls calls lines) → Reads es (before ++ calls) lines
reads_on es before [] lines r = rw append-nil r
reads_on es before (c ∷ calls) lines r =
    let step : Reads es (before ++ c ∷ []) (after_calls calls lines) = Reads-step es (after_calls (c ∷ calls) lines) (after_calls calls lines) before 0 c (Ok (Call c)) refl r refl in
    rw append_assoc at (reads_on es (before ++ c ∷ []) calls lines step)

pub reads_calls : (calls : Calls) (lines : Lines) → Reads (after_calls calls lines) calls lines
reads_calls calls lines = reads_on (after_calls calls lines) [] calls lines (Reads-none (after_calls calls lines))

-- two texts from which the same calls and the same rest are read have the same batches
same_reads : (es fs rest : Lines) (calls : Calls) → Reads es calls rest → Reads fs calls rest → (batches_of es ≡ batches_of fs) × (first_fault es ≡ first_fault fs)
same_reads es fs rest calls r q =
    let fault : first_fault es ≡ first_fault fs = r.fault ∙ sym q.fault in
    (ap (λ (f : Option LogFault). whole_batches f (cut_apart es)) fault ∙ ap (whole_batches (first_fault fs)) (r.calls_read ∙ sym q.calls_read), fault)

-- ---- the next line

next_line : (procs : List ProcParts) (n : ℕ) (line more : List ℕ) → has_newline line ≡ false →
    lines_said procs n (line ++ newline ∷ more) ≡ (next_number n, line_said procs line) ∷ lines_said procs (next_number n) more
next_line procs n line more h =
    ap (λ (text : List ℕ). lines_said procs n text) (sym (append_assoc line (newline ∷ []) more)) ∙ ap (map (λ (l : ℕ × List ℕ). (l.0, line_said procs l.1))) (numbered_lines-newline n line more h)

last_line : (procs : List ProcParts) (n : ℕ) (line : List ℕ) → has_newline line ≡ false → 0 < length line → lines_said procs n (line ++ []) ≡ (next_number n, line_said procs line) ∷ []
last_line procs n line h some =
    ap (λ (text : List ℕ). lines_said procs n text) (append-nil line) ∙ ap (map (λ (l : ℕ × List ℕ). (l.0, line_said procs l.1))) (numbered_lines-last n line h some)

-- ---- one byte more

pub IsAt-start : (procs : ProcsParts) (retries : ℕ) → IsAt procs (record { retries = retries; calls = []; total = 0; lines = 0; line = [] }) [] []
IsAt-start procs retries = record { batches = λ more. refl; fault = λ more. refl; one_line = refl }

pub IsAt-byte : (procs : ProcsParts) (place : Place) (ended : List Calls) (fed : List ℕ) (b : ℕ) → IsAt procs place ended fed → is_newline b ≡ false →
    IsAt procs (record place { line = place.line ++ b ∷ [] }) ended (fed ++ b ∷ [])
IsAt-byte procs place ended fed b at h = record {
  batches = λ more. rw (append_assoc fed (b ∷ []) more, append_assoc place.line (b ∷ []) more) (at.batches (b ∷ more));
  fault = λ more. rw (append_assoc fed (b ∷ []) more, append_assoc place.line (b ∷ []) more) (at.fault (b ∷ more));
  one_line = has_newline-append place.line (b ∷ []) at.one_line (rw h refl);
}

-- ---- a line that comes at once

pub IsAt-begun : (procs : ProcsParts) (place : Place) (ended : List Calls) (fed line : List ℕ) → IsAt procs place ended fed → place.line ≡ [] → has_newline line ≡ false →
    IsAt procs (record place { line = line }) ended (fed ++ line)
IsAt-begun procs place ended fed line at none one = record {
  batches = λ more. rw (append_assoc fed line more) (rw none at (at.batches (line ++ more)));
  fault = λ more. rw (append_assoc fed line more) (rw none at (at.fault (line ++ more)));
  one_line = one;
}

-- ---- a call

calls_and_one : (retries : ℕ) (procs : List ProcParts) (calls : Calls) (total n : ℕ) (c : requests.Call) (mid rest : Lines) → is_room retries (length calls) total ≡ true → mid ≡ (n, Ok (Call c)) ∷ rest →
    Reads (after_calls calls (limited retries (length calls) total mid)) (calls ++ c ∷ []) (limited retries (length (calls ++ c ∷ [])) (total + 1) rest)
calls_and_one retries procs calls total n c mid rest room q =
    Reads-call retries (after_calls calls (limited retries (length calls) total mid)) mid rest calls (calls ++ c ∷ []) n (length (calls ++ c ∷ [])) total c room refl (length-append calls (c ∷ []))
    (reads_calls calls (limited retries (length calls) total mid)) q

pub IsAt-call : (procs : ProcsParts) (place : Place) (ended : List Calls) (fed : List ℕ) (c : requests.Call) → IsAt procs place ended fed →
    line_said procs.procs place.line ≡ Ok (Call c) → is_room place.retries (length place.calls) place.total ≡ true →
    IsAt procs (record { retries = place.retries; calls = place.calls ++ c ∷ []; total = place.total + 1; lines = next_number place.lines; line = [] }) ended (fed ++ newline ∷ [])
IsAt-call procs place ended fed c at said room =
    let next : Place = record { retries = place.retries; calls = place.calls ++ c ∷ []; total = place.total + 1; lines = next_number place.lines; line = [] } in
    let same = λ (more : List ℕ).
    let q : lines_said procs.procs place.lines (place.line ++ newline ∷ more) ≡ (next_number place.lines, Ok (Call c)) ∷ lines_said procs.procs (next_number place.lines) more =
    next_line procs.procs place.lines place.line more at.one_line ∙ ap (λ (s : Result LogLine LogFaultKind). (next_number place.lines, s) ∷ lines_said procs.procs (next_number place.lines) more) said in
    same_reads (said_from procs place (newline ∷ more)) (said_from procs next more) (limited next.retries (length next.calls) next.total (lines_said procs.procs next.lines more)) next.calls
    (calls_and_one place.retries procs.procs place.calls place.total (next_number place.lines) c _ _ room q) (reads_calls next.calls (limited next.retries (length next.calls) next.total (lines_said procs.procs next.lines more))) in
    record {
      batches = λ more. rw (append_assoc fed (newline ∷ []) more) (at.batches (newline ∷ more) ∙ ap (λ (bs : List Calls). ended ++ bs) (same more).0);
      fault = λ more. rw (append_assoc fed (newline ∷ []) more) (at.fault (newline ∷ more) ∙ (same more).1);
      one_line = refl;
    }

pub IsAt-next : (r : Result ⊤ LogFaultKind) (procs : ProcsParts) (place new : Place) (ended : List Calls) (fed line : List ℕ) (c : requests.Call) → IsAt procs place ended fed → place.line ≡ [] →
    (has_newline line ≡ false) × (line_said procs.procs line ≡ Ok (Call c)) × (is_room place.retries (length place.calls) place.total ≡ true) → OnOk r (new ≡ with_call place c) →
    OnOk r (IsAt procs new ended (fed ++ (line ++ newline ∷ [])))
IsAt-next (Err kind) procs place new ended fed line c at none said is = tt
IsAt-next (Ok t) procs place new ended fed line c at none said is =
    rw (is, none, ← append_assoc fed line (newline ∷ []))
    (IsAt-call procs (record place { line = line }) ended (fed ++ line) c (IsAt-begun procs place ended fed line at none said.0) said.1 said.2)

-- ---- a cut

ended_one_more : (ended : List Calls) (calls : Calls) (left : List Calls) → ended ++ (calls ∷ left) ≡ (ended ++ calls ∷ []) ++ left
ended_one_more ended calls left = sym (append_assoc ended (calls ∷ []) left)

pub IsAt-cut : (procs : ProcsParts) (place : Place) (ended : List Calls) (fed : List ℕ) → IsAt procs place ended fed → line_said procs.procs place.line ≡ Ok Cut →
    IsAt procs (record { retries = place.retries; calls = []; total = place.total; lines = next_number place.lines; line = [] }) (ended ++ place.calls ∷ []) (fed ++ newline ∷ [])
IsAt-cut procs place ended fed at said =
    let rest = λ (more : List ℕ). limited place.retries 0 place.total (lines_said procs.procs (next_number place.lines) more) in
    let next = λ (more : List ℕ).
    let q : lines_said procs.procs place.lines (place.line ++ newline ∷ more) ≡ (next_number place.lines, Ok Cut) ∷ lines_said procs.procs (next_number place.lines) more =
    next_line procs.procs place.lines place.line more at.one_line ∙ ap (λ (s : Result LogLine LogFaultKind). (next_number place.lines, s) ∷ lines_said procs.procs (next_number place.lines) more) said in
    NextBatch-cut place.retries (said_from procs place (newline ∷ more)) _ (lines_said procs.procs (next_number place.lines) more) place.calls (next_number place.lines) (length place.calls) place.total
    (reads_calls place.calls (limited place.retries (length place.calls) place.total (lines_said procs.procs place.lines (place.line ++ newline ∷ more)))) q in
    record {
      batches = λ more. rw (append_assoc fed (newline ∷ []) more) (at.batches (newline ∷ more) ∙ ap (λ (bs : List Calls). ended ++ bs) (next more).batches
          ∙ ended_one_more ended place.calls (batches_of (rest more)));
      fault = λ more. rw (append_assoc fed (newline ∷ []) more) (at.fault (newline ∷ more) ∙ (next more).fault);
      one_line = refl;
    }

-- ---- a fault of a line

line_fault : (procs : ProcsParts) (place : Place) (kind : LogFaultKind) (text : List ℕ) (rest : Lines) →
    within place.retries (length place.calls) place.total (line_said procs.procs place.line) ≡ Err kind →
    lines_said procs.procs place.lines (place.line ++ text) ≡ (next_number place.lines, line_said procs.procs place.line) ∷ rest →
    IsFault (said_from procs place text) (record { kind = kind; line = next_number place.lines })
line_fault procs place kind text rest e q =
    Fault-step (said_from procs place text) _ _ place.calls (next_number place.lines) kind _ e
    (reads_calls place.calls (limited place.retries (length place.calls) place.total (lines_said procs.procs place.lines (place.line ++ text))))
    (ap (λ (lines : Lines). limited place.retries (length place.calls) place.total lines) q)

faulty : (procs : ProcsParts) (place : Place) (ended : List Calls) (fed text : List ℕ) (found : LogFault) → IsAt procs place ended fed →
    IsFault (said_from procs place text) found → IsFaulty procs place.retries found ended (fed ++ text)
faulty procs place ended fed text found at f = record {
  batches = at.batches text ∙ ap (λ (bs : List Calls). ended ++ bs) f.batches ∙ append-nil ended;
  first = at.fault text ∙ f.first;
}

pub IsAt-fault : (procs : ProcsParts) (place : Place) (ended : List Calls) (fed : List ℕ) (kind : LogFaultKind) → IsAt procs place ended fed →
    within place.retries (length place.calls) place.total (line_said procs.procs place.line) ≡ Err kind →
    (more : List ℕ) → IsFaulty procs place.retries (record { kind = kind; line = next_number place.lines }) ended ((fed ++ newline ∷ []) ++ more)
IsAt-fault procs place ended fed kind at e more = rw (append_assoc fed (newline ∷ []) more)
    (faulty procs place ended fed (newline ∷ more) _ at (line_fault procs place kind (newline ∷ more) _ e (next_line procs.procs place.lines place.line more at.one_line)))

-- ---- the end of the log

whole_reads : (es : Lines) (calls : Calls) → Reads es calls [] → (batches_of es ≡ last_batch None calls) × (first_fault es ≡ None)
whole_reads es [] r = let end : IsEnd es = IsEnd-here 0 es [] [] 0 0 refl r refl in (end.batches, end.fault)
whole_reads es (c ∷ calls) r = let last = NextBatch-last es [] (c ∷ calls) (omega arith) r refl in (last.batches, last.fault)

whole : (procs : ProcsParts) (place : Place) (calls : Calls) (ended : List Calls) (fed : List ℕ) → IsAt procs place ended fed →
    Reads (said_from procs place []) calls [] → IsWhole procs place.retries calls ended fed
whole procs place calls ended fed at r =
    let all : fed ++ [] ≡ fed = append-nil fed in
    let is = whole_reads (said_from procs place []) calls r in
    record {
      batches = ap (λ (log : List ℕ). batches_said procs place.retries log) (sym all) ∙ at.batches [] ∙ ap (λ (bs : List Calls). ended ++ bs) is.0;
      fault = ap (λ (log : List ℕ). fault_said procs place.retries log) (sym all) ∙ at.fault [] ∙ is.1;
    }

-- the last line has its newline
pub IsAt-end : (procs : ProcsParts) (place : Place) (ended : List Calls) (fed : List ℕ) → IsAt procs place ended fed → place.line ≡ [] → IsWhole procs place.retries place.calls ended fed
IsAt-end procs place ended fed at none =
    whole procs place place.calls ended fed at
    (rw none (reads_calls place.calls []))

-- it has none, and is a call, a cut or a fault
pub IsAt-last_call : (procs : ProcsParts) (place : Place) (ended : List Calls) (fed : List ℕ) (c : requests.Call) → IsAt procs place ended fed → 0 < length place.line →
    line_said procs.procs place.line ≡ Ok (Call c) → is_room place.retries (length place.calls) place.total ≡ true → IsWhole procs place.retries (place.calls ++ c ∷ []) ended fed
IsAt-last_call procs place ended fed c at some said room =
    whole procs place (place.calls ++ c ∷ []) ended fed at
    (calls_and_one place.retries procs.procs place.calls place.total (next_number place.lines) c _ [] room
    (last_line procs.procs place.lines place.line at.one_line some ∙ ap (λ (s : Result LogLine LogFaultKind). (next_number place.lines, s) ∷ []) said))

pub IsAt-last_cut : (procs : ProcsParts) (place : Place) (ended : List Calls) (fed : List ℕ) → IsAt procs place ended fed → 0 < length place.line →
    line_said procs.procs place.line ≡ Ok Cut → IsWhole procs place.retries [] (ended ++ place.calls ∷ []) fed
IsAt-last_cut procs place ended fed at some said =
    let all : fed ++ [] ≡ fed = append-nil fed in
    let q : lines_said procs.procs place.lines (place.line ++ []) ≡ (next_number place.lines, Ok Cut) ∷ [] =
    last_line procs.procs place.lines place.line at.one_line some ∙ ap (λ (s : Result LogLine LogFaultKind). (next_number place.lines, s) ∷ []) said in
    let next = NextBatch-cut place.retries (said_from procs place []) _ [] place.calls (next_number place.lines) (length place.calls) place.total
    (reads_calls place.calls (limited place.retries (length place.calls) place.total (lines_said procs.procs place.lines (place.line ++ [])))) q in
    record {
      batches = ap (λ (log : List ℕ). batches_said procs place.retries log) (sym all) ∙ at.batches [] ∙ ap (λ (bs : List Calls). ended ++ bs) next.batches
          ∙ ended_one_more ended place.calls [];
      fault = ap (λ (log : List ℕ). fault_said procs place.retries log) (sym all) ∙ at.fault [] ∙ next.fault;
    }

pub IsAt-last_fault : (procs : ProcsParts) (place : Place) (ended : List Calls) (fed : List ℕ) (kind : LogFaultKind) → IsAt procs place ended fed → 0 < length place.line →
    within place.retries (length place.calls) place.total (line_said procs.procs place.line) ≡ Err kind → IsFaulty procs place.retries (record { kind = kind; line = next_number place.lines }) ended fed
IsAt-last_fault procs place ended fed kind at some e =
    rw (append-nil fed) at (faulty procs place ended fed [] _ at (line_fault procs place kind [] [] e (last_line procs.procs place.lines place.line at.one_line some)))

-- the calls after the last cut are run
pub IsWhole-run : (procs : ProcsParts) (retries : ℕ) (calls : Calls) (ended : List Calls) (log : List ℕ) → IsWhole procs retries calls ended log → 0 < length calls →
    IsWhole procs retries [] (ended ++ calls ∷ []) log
IsWhole-run procs retries [] ended log w some = absurd (omega arith)
IsWhole-run procs retries (c ∷ calls) ended log w some = record { batches = w.batches ∙ ended_one_more ended (c ∷ calls) []; fault = w.fault }

-- ---- what a line does

abbrev Answer : Type 0
Answer = Result (Option (Vec requests.Call Global)) LogFault

pub step_call : (r : Answer) (b : ℕ) (procs : ProcsParts) (old new : Place) (ended : List Calls) (fed : List ℕ) → b ≡ newline → IsAt procs old ended fed →
    IfOk r (λ o. IsNone o → (call : requests.Call) × AddsCall procs.procs old new call) → IfOk r (λ o. IsNone o → IsAt procs new ended (fed ++ b ∷ []))
step_call (Err e) b procs old new ended fed q at h = tt
step_call (Ok o) b procs old new ended fed q at h = λ none. let s = (h none).1 in rw (s.place, q) (IsAt-call procs old ended fed (h none).0 at s.said s.room)

pub step_cut : (r : Answer) (b : ℕ) (procs : ProcsParts) (old new : Place) (ended : List Calls) (fed : List ℕ) → b ≡ newline → IsAt procs old ended fed →
    IfOk r (λ o. IfSome o (λ calls. EndsBatch procs.procs old new calls.items)) → IfOk r (λ o. IfSome o (λ calls. IsAt procs new (ended ++ calls.items ∷ []) (fed ++ b ∷ [])))
step_cut (Err e) b procs old new ended fed q at h = tt
step_cut (Ok None) b procs old new ended fed q at h = tt
step_cut (Ok (Some calls)) b procs old new ended fed q at h = rw (h.place, h.batch, q) (IsAt-cut procs old ended fed at h.said)

is_fault : (e : LogFault) (kind : LogFaultKind) (n : ℕ) → e.kind ≡ kind → e.line ≡ n → record { kind = kind; line = n } ≡ e
is_fault e kind n h k = rw (← h, ← k) refl

pub step_fault : (r : Answer) (b : ℕ) (procs : ProcsParts) (old : Place) (ended : List Calls) (fed more : List ℕ) → b ≡ newline → IsAt procs old ended fed →
    IfErr r (λ e. IsOfLine e.kind → BreaksRule procs.procs old e) → IfErr r (λ e. IsOfLine e.kind → IsFaulty procs old.retries e ended ((fed ++ b ∷ []) ++ more))
step_fault (Ok o) b procs old ended fed more q at h = tt
step_fault (Err e) b procs old ended fed more q at h = λ of.
    let broken = h of in rw q (rw (is_fault e e.kind (next_number old.lines) refl broken.line) at (IsAt-fault procs old ended fed e.kind at broken.kind more))

-- ---- what the last line does, which has no newline

not_none : (n : ℕ) → n ≢ 0 → 0 < n
not_none n h = omega (arith, h)

pub last_call : (r : Answer) (procs : ProcsParts) (old new : Place) (ended : List Calls) (fed : List ℕ) → length old.line ≢ 0 → IsAt procs old ended fed →
    IfOk r (λ o. IsNone o → (call : requests.Call) × AddsCall procs.procs old new call) → IfOk r (λ o. IsNone o → IsWhole procs old.retries new.calls ended fed)
last_call (Err e) procs old new ended fed some at h = tt
last_call (Ok o) procs old new ended fed some at h = λ none. let s = (h none).1 in
    rw s.place (IsAt-last_call procs old ended fed (h none).0 at (not_none (length old.line) some) s.said s.room)

pub last_cut : (r : Answer) (procs : ProcsParts) (old new : Place) (ended : List Calls) (fed : List ℕ) → length old.line ≢ 0 → IsAt procs old ended fed →
    IfOk r (λ o. IfSome o (λ calls. EndsBatch procs.procs old new calls.items)) → IfOk r (λ o. IfSome o (λ calls. IsWhole procs old.retries [] (ended ++ calls.items ∷ []) fed))
last_cut (Err e) procs old new ended fed some at h = tt
last_cut (Ok None) procs old new ended fed some at h = tt
last_cut (Ok (Some calls)) procs old new ended fed some at h = rw h.batch (IsAt-last_cut procs old ended fed at (not_none (length old.line) some) h.said)

pub last_fault : (r : Answer) (procs : ProcsParts) (old : Place) (ended : List Calls) (fed : List ℕ) → length old.line ≢ 0 → IsAt procs old ended fed →
    IfErr r (λ e. IsOfLine e.kind → BreaksRule procs.procs old e) → IfErr r (λ e. IsOfLine e.kind → IsFaulty procs old.retries e ended fed)
last_fault (Ok o) procs old ended fed some at h = tt
last_fault (Err e) procs old ended fed some at h = λ of.
    let broken = h of in rw (is_fault e e.kind (next_number old.lines) refl broken.line) at (IsAt-last_fault procs old ended fed e.kind at (not_none (length old.line) some) broken.kind)

pub no_line : (line : List ℕ) → length line ≡ 0 → line ≡ []
no_line line h = nil_from_length line h

-- the calls after the last cut, where there are none, and where there are some
pub whole_without : (procs : ProcsParts) (retries : ℕ) (calls : Calls) (ended : List Calls) (log : List ℕ) → length calls ≡ 0 → IsWhole procs retries calls ended log → IsWhole procs retries [] ended log
whole_without procs retries [] ended log none w = w
whole_without procs retries (c ∷ calls) ended log none w = absurd (omega arith)

pub whole_with : (procs : ProcsParts) (retries : ℕ) (calls : Calls) (ended : List Calls) (log : List ℕ) → length calls ≢ 0 → IsWhole procs retries calls ended log → IsWhole procs retries [] (ended ++ calls ∷ []) log
whole_with procs retries calls ended log some w = IsWhole-run procs retries calls ended log w (not_none (length calls) some)
