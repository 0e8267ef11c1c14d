-- How far a run has come in its log.
use Rattle.std.proofs.Common.{◌≡◌, ℕ, ◌+◌, List, [], ◌∷◌, ◌++◌, append_assoc, append-nil, length, Option, Some, None, is_some, false, refl, sym, ◌∙◌, ap}
use Rattle.sha2.specs.Hashers.{Holds256}
use Rattle.devices.specs.Devices.{Passes}
use Rattle.devices.proofs.Passing.{Passes-refl, Passes-trans}
use Rattle.row_text.specs.declared.form.DigestForm.{DigestForm}
use Rattle.requests.specs.Requests.{Call}
use Rattle.batch_log.specs.Places.{batches_said}
use Rattle.batch_log.specs.declared.fault.LogFault.{LogFault}
use Rattle.batch_log.specs.Log.{batches_of, first_fault, log_said, IsEnd, IsFault, IsNextBatch}
use Rattle.report_text.specs.Report.{end_text, report}
use Rattle.retries.specs.Standings.{call_count, closed, in_turn, start_of, transactions_in}
use Rattle.retries.proofs.Followed.{closed-append}
use Rattle.engine.specs.Engines.{EngineParts}
use Rattle.running.specs.Standings.{standing_after}
use Rattle.running.specs.declared.transcript.Transcript.{Transcript}
use Rattle.running.specs.Batches.{IsReported}
use Rattle.running.specs.Hashers.{batch_of, form_of, said_of}
use Rattle.running.specs.Reported.{with_closing, HasReported}
use Rattle.running.specs.Reports.{calls_in_turn, log_fault, report_of}
use Rattle.running.specs.Starts.{start_on, Start}
use Rattle.running.specs.Stopped.{texts_of}
use Rattle.running.proofs.Reported.{calls_grown, HasReported-next, HasReported-none}

-- ---- the log after some batches

-- these are the first batches of the log, and the rest of them are in what is not read
pub record After (start : Start) (m total : ℕ) (ran : List (List Call)) (log rest : List ℕ) : Type 0 where
  pub batches : batches_said start.procs start.retries log ≡ ran ++ batches_of (log_said start.retries start.procs.procs m total rest)
  pub fault : log_fault start log ≡ first_fault (log_said start.retries start.procs.procs m total rest)

pub After-start : (start : Start) (log : List ℕ) → After start 0 0 [] log log
After-start start log = record { batches = refl; fault = refl }

pub After-next : (start : Start) (m total next total2 : ℕ) (ran : List (List Call)) (calls : List Call) (log mid rest : List ℕ) →
    After start m total ran log mid → IsNextBatch (log_said start.retries start.procs.procs m total mid) calls (log_said start.retries start.procs.procs next total2 rest) →
    After start next total2 (ran ++ calls ∷ []) log rest
After-next start m total next total2 ran calls log mid rest g h = record {
  batches = g.batches ∙ ap (λ (bs : List (List Call)). ran ++ bs) h.batches ∙ sym (append_assoc ran (calls ∷ []) _);
  fault = g.fault ∙ h.fault;
}

-- ---- the batches and the report of a log

pub calls_are : (start : Start) (log : List ℕ) (ran more : List (List Call)) (fault : Option LogFault) →
    batches_said start.procs start.retries log ≡ ran ++ more → log_fault start log ≡ fault →
    calls_in_turn start log ≡ ran ++ closed start.retries (is_some fault) (standing_after start ran) more
calls_are start log ran more fault e f =
    ap (λ (o : Option LogFault). closed start.retries (is_some o) (start_of start.rows) (batches_said start.procs start.retries log)) f
    ∙ ap (λ (bs : List (List Call)). closed start.retries (is_some fault) (start_of start.rows) bs) e ∙ closed-append start.retries (is_some fault) (start_of start.rows) ran more

pub report_is : (start : Start) (log : List ℕ) (batches : List (List Call)) (fault : Option LogFault) →
    calls_in_turn start log ≡ batches → log_fault start log ≡ fault →
    report_of start log ≡ texts_of start batches ++ end_text (is_some fault) start.digest start.procs.tables start.rows (transactions_in start.retries start.rows batches)
unfolding report
report_is start log batches fault e f =
    ap (λ (bs : List (List Call)). report start.digest start.procs.tables start.rows (in_turn start.retries (start_of start.rows) bs) (is_some (log_fault start log))) e
    ∙ ap (λ (o : Option LogFault). report start.digest start.procs.tables start.rows (in_turn start.retries (start_of start.rows) batches) (is_some o)) f

-- after the last batch of a log without a fault stand those that close it
pub calls_at_end : (start : Start) (m total : ℕ) (ran : List (List Call)) (log rest : List ℕ) → After start m total ran log rest →
    IsEnd (log_said start.retries start.procs.procs m total rest) → calls_in_turn start log ≡ with_closing start ran
calls_at_end start m total ran log rest g h =
    calls_are start log ran [] None (g.batches ∙ ap (λ (bs : List (List Call)). ran ++ bs) h.batches) (g.fault ∙ h.fault)

pub report_at_end : (start : Start) (m total : ℕ) (ran : List (List Call)) (log rest : List ℕ) → After start m total ran log rest →
    IsEnd (log_said start.retries start.procs.procs m total rest) →
    report_of start log ≡ texts_of start (with_closing start ran) ++ end_text false start.digest start.procs.tables start.rows (transactions_in start.retries start.rows (with_closing start ran))
report_at_end start m total ran log rest g h =
    report_is start log (with_closing start ran) None (calls_at_end start m total ran log rest g h) (g.fault ∙ h.fault)

-- a fault is after the last batch, and nothing closes the log
pub report_at_fault : (start : Start) (m total : ℕ) (ran : List (List Call)) (log rest : List ℕ) (fault : LogFault) → After start m total ran log rest →
    IsFault (log_said start.retries start.procs.procs m total rest) fault → report_of start log ≡ texts_of start ran
report_at_fault start m total ran log rest fault g h =
    report_is start log ran (Some fault)
    (calls_are start log ran [] (Some fault) (g.batches ∙ ap (λ (bs : List (List Call)). ran ++ bs) h.batches) (g.fault ∙ h.first) ∙ append-nil ran)
    (g.fault ∙ h.first)
    ∙ append-nil (texts_of start ran)

-- ---- how far a run has come

-- the first batches of the log have run and were reported, and the rest of the log isn't read
pub record SoFar (start : Start) (m total : ℕ) (engine : EngineParts) (transcript : Transcript) (left now taken gave : Option (List ℕ)) : Type 0 where
  pub ran : List (List Call)
  pub reported : HasReported start ran engine transcript taken gave
  pub total_is : total ≡ call_count ran
  pub after : Passes (After start m total ran) left now

pub SoFar-start : (m total : ℕ) (engine : EngineParts) (form : DigestForm) (transcript : Transcript) (left now taken : Option (List ℕ)) → m ≡ 0 → total ≡ 0 → now ≡ left → engine.next ≡ 0 → engine.carried ≡ [] →
    batch_of transcript ≡ 1 → Holds256 (said_of transcript) [] → form_of transcript ≡ form →
    SoFar (start_on engine form) m total engine transcript left now taken taken
SoFar-start m total engine form transcript left now taken e f g n c b h is =
    let none : Passes (After (start_on engine form) 0 0 []) left left = Passes-refl _ left (λ x. After-start (start_on engine form) x) in
    record {
      ran = [];
      reported = HasReported-none engine form transcript taken n c b h is;
      total_is = f;
      after = rw (e, f, g) none;
    }

-- a batch ran and was reported
pub SoFar-next : (start : Start) (m total next total2 : ℕ) (calls : List Call) (engine after : EngineParts) (transcript after_it : Transcript)
    (left now later taken gave given : Option (List ℕ)) → SoFar start m total engine transcript left now taken gave →
    Passes (λ xs ys. IsNextBatch (log_said start.retries start.procs.procs m total xs) calls (log_said start.retries start.procs.procs next total2 ys)) now later → total2 ≡ total + length calls →
    after.procs ≡ engine.procs → after.retries ≡ engine.retries → form_of after_it ≡ form_of transcript → IsReported engine after transcript after_it gave given calls →
    SoFar start next total2 after after_it left later taken given
SoFar-next start m total next total2 calls engine after transcript after_it left now later taken gave given s p n e r f reported = record {
  ran = s.ran ++ calls ∷ [];
  reported = HasReported-next start s.ran calls engine after transcript after_it taken gave given s.reported e r f reported;
  total_is = n ∙ ap (λ k. k + length calls) s.total_is ∙ sym (calls_grown s.ran calls);
  after = Passes-trans _ _ _ _ _ _ s.after p (λ x y z g h. After-next _ _ _ _ _ _ _ _ _ _ g h);
}
