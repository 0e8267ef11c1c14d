-- What a run that stopped has written is a beginning of the report.
use Rattle.std.proofs.Common.{◌≡◌, ℕ, List, [], ◌∷◌, ◌++◌, append_assoc, append-nil, Bool, Option, Some, None, is_some, false, refl, sym, ◌∙◌, ap}
use Rattle.std.specs.Option.{IfSome}
use Rattle.std.proofs.KnownBytes.{Appends-trans}
use Rattle.devices.specs.Devices.{AppendsFront}
use Rattle.values.specs.Database.{Database}
use Rattle.requests.specs.Requests.{Call}
use Rattle.batch_log.specs.Lines.{Lines}
use Rattle.batch_log.specs.declared.fault.LogFault.{LogFault}
use Rattle.batch_log.specs.Log.{batches_of, first_fault, IsEnd}
use Rattle.report_text.specs.Report.{end_text}
use Rattle.retries.specs.Standings.{after_batch, after_batches, closed, closing, start_of, transactions_in, Standing}
use Rattle.running.specs.Reports.{report_of}
use Rattle.running.specs.Standings.{standing_after}
use Rattle.running.specs.Starts.{Start}
use Rattle.running.specs.Stopped.{at_end, in_batch, in_closing, next_text, reading, said_after, text_at, texts_of, AppendsAndFront, HaveClosed, IsStoppedAt, IsTakenAt, Stage}
use Rattle.running.proofs.Reported.{texts_further, texts_next}
use Rattle.running.proofs.SoFar.{calls_are, report_is}

-- the report of these batches and what ends it
abbrev whole_text : Start → Bool → List (List Call) → List ℕ
whole_text start faulty batches = texts_of start batches ++ end_text faulty start.digest start.procs.tables start.rows (transactions_in start.retries start.rows batches)

-- it begins with this text
abbrev Begins : List ℕ → List ℕ → Type 0
Begins text front = (rest : List ℕ) × (text ≡ front ++ rest)

begins_further : (start : Start) (faulty : Bool) (ran more all : List (List Call)) → all ≡ ran ++ more →
    Begins (whole_text start faulty all) (texts_of start ran ++ [])
begins_further start faulty ran more all e =
    let further = texts_further start ran more in
    let end : List ℕ = end_text faulty start.digest start.procs.tables start.rows (transactions_in start.retries start.rows all) in (
      further.0 ++ end,
      ap (λ text. text ++ end) (ap (texts_of start) e ∙ further.1) ∙ append_assoc (texts_of start ran) further.0 end
          ∙ ap (λ text. text ++ (further.0 ++ end)) (sym (append-nil (texts_of start ran))),
    )

begins_next : (start : Start) (faulty : Bool) (ran : List (List Call)) (calls : List Call) (more all : List (List Call)) → all ≡ ran ++ calls ∷ more →
    Begins (whole_text start faulty all) (texts_of start ran ++ next_text start ran calls)
begins_next start faulty ran calls more all e =
    let further = texts_next start ran calls more in
    let end : List ℕ = end_text faulty start.digest start.procs.tables start.rows (transactions_in start.retries start.rows all) in (
      further.0 ++ end,
      ap (λ text. text ++ end) (ap (texts_of start) e ∙ further.1) ∙ append_assoc (texts_of start ran ++ next_text start ran calls) further.0 end,
    )

-- the batches of a log, where its lines after some batches are these
abbrev after_with : ℕ → Database → List (List Call) → Lines → List (List Call)
after_with retries db reported lines = reported ++ closed retries (is_some (first_fault lines)) (after_batches retries (start_of db) reported) (batches_of lines)

abbrev report_after : Start → List (List Call) → Lines → List ℕ
report_after start reported lines = whole_text start (is_some (first_fault lines)) (after_with start.retries start.rows reported lines)

-- where these lines are none
closes : (retries : ℕ) (lines : Lines) (s : Standing) → IsEnd lines → closed retries (is_some (first_fault lines)) s (batches_of lines) ≡ closing retries s
closes retries lines s h = ap (λ (bs : List (List Call)). closed retries (is_some (first_fault lines)) s bs) h.batches ∙ ap (λ (o : Option LogFault). closed retries (is_some o) s []) h.fault

-- the report begins with what is written by each stage
begins_at : (stage : Stage) (start : Start) (reported closers : List (List Call)) (bytes taken rest : List ℕ) →
    IsTakenAt stage start reported bytes taken rest → HaveClosed stage start reported closers →
    Begins (report_after start reported (said_after start bytes reported (taken ++ rest))) (texts_of start (reported ++ closers) ++ text_at stage start (reported ++ closers))
begins_at reading start reported closers bytes taken rest at none =
    let lines : Lines = said_after start bytes reported (taken ++ rest) in
    let more : List (List Call) = closed start.retries (is_some (first_fault lines)) (standing_after start reported) (batches_of lines) in
    rw (none, append-nil reported) (begins_further start (is_some (first_fault lines)) reported more (after_with start.retries start.rows reported lines) refl)
begins_at (in_batch calls) start reported closers bytes taken rest at none =
    let lines : Lines = said_after start bytes reported (taken ++ rest) in
    let f : Bool = is_some (first_fault lines) in
    let s : Standing = standing_after start reported in
    let left : List (List Call) = batches_of (said_after start (bytes ++ taken) (reported ++ calls ∷ []) rest) in
    rw (none, append-nil reported)
    (begins_next start f reported calls (closed start.retries f (after_batch start.retries s calls) left) (after_with start.retries start.rows reported lines)
    (ap (λ (bs : List (List Call)). reported ++ closed start.retries f s bs) at.batches))
begins_at in_closing start reported closers bytes taken rest at closing_is =
    let lines : Lines = said_after start bytes reported (taken ++ rest) in
    begins_next start (is_some (first_fault lines)) (reported ++ closers) [] closing_is.0 (after_with start.retries start.rows reported lines)
    (ap (λ (bs : List (List Call)). reported ++ bs) (closes start.retries lines (standing_after start reported) at.0 ∙ closing_is.1) ∙ sym (append_assoc reported closers ([] ∷ closing_is.0)))
begins_at at_end start reported closers bytes taken rest at closing_is =
    let lines : Lines = said_after start bytes reported (taken ++ rest) in
    let all : after_with start.retries start.rows reported lines ≡ reported ++ closers = ap (λ (bs : List (List Call)). reported ++ bs) (closes start.retries lines (standing_after start reported) at.0 ∙ closing_is) in (
      [],
      ap (λ (o : Option LogFault). whole_text start (is_some o) (after_with start.retries start.rows reported lines)) at.0.fault
          ∙ ap (whole_text start false) all ∙ sym (append-nil (whole_text start false (reported ++ closers))),
    )

front_of : (sink filled : Option (List ℕ)) (front text all : List ℕ) → AppendsAndFront sink filled front text → Begins all (front ++ text) → AppendsFront sink filled all
front_of sink filled front text all h b = (
  front ++ h.2.0,
  h.2.1 ++ b.0,
  b.1 ∙ ap (λ x. (front ++ x) ++ b.0) h.2.2 ∙ ap (λ x. x ++ b.0) (sym (append_assoc front h.2.0 h.2.1)) ∙ append_assoc (front ++ h.2.0) h.2.1 b.0,
  Appends-trans sink h.0 filled front h.2.0 h.1 h.2.3,
)

front_known : (stage : Stage) (start : Start) (failed : Bool) (log : List ℕ) (sink filled : Option (List ℕ)) (line : ℕ) →
    IsStoppedAt stage start failed log sink filled line → AppendsFront sink filled (report_of start log)
front_known stage start failed log sink filled line s =
    let lines : Lines = said_after start s.bytes s.reported (s.taken ++ s.rest) in
    let begins = begins_at stage start s.reported s.closers s.bytes s.taken s.rest s.at s.closed in
    let report : report_of start log ≡ (texts_of start (s.reported ++ s.closers) ++ text_at stage start (s.reported ++ s.closers)) ++ begins.0 =
    report_is start log _ (first_fault lines) (calls_are start log s.reported (batches_of lines) (first_fault lines) s.batches s.fault) s.fault ∙ begins.1 in
    front_of sink filled _ _ _ s.written (begins.0, report)

pub front_of_stopped : (stage : Stage) (start : Start) (failed : Bool) (left sink filled : Option (List ℕ)) (line : ℕ) →
    IfSome left (λ log. IsStoppedAt stage start failed log sink filled line) → IfSome left (λ log. AppendsFront sink filled (report_of start log))
front_of_stopped stage start failed None sink filled line s = tt
front_of_stopped stage start failed (Some log) sink filled line s = front_known stage start failed log sink filled line s
