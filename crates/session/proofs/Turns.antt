-- Batches one after another, and the report that they begin.
use Rattle.std.proofs.Common.{◌≡◌, ℕ, List, [], ◌++◌, append_assoc, append-nil, length, Option, Some, None, is_some, false, refl, sym, ◌∙◌, ap}
use Rattle.requests.specs.Requests.{Call}
use Rattle.batch_log.specs.declared.fault.LogFault.{LogFault}
use Rattle.batch_log.specs.Places.{batches_said, IsAt, IsFaulty, IsWhole, Place}
use Rattle.report_text.specs.Report.{all_transactions, end_text}
use Rattle.retries.specs.Standings.{closed, in_turn, start_of, transactions_in}
use Rattle.retries.proofs.Serial.{next_is}
use Rattle.running.specs.Reported.{with_closing}
use Rattle.running.specs.Reports.{batches_in, calls_in_turn, log_fault, report_of}
use Rattle.running.specs.Standings.{standing_after}
use Rattle.running.specs.Starts.{Start}
use Rattle.running.specs.Stopped.{texts_of}
use Rattle.running.proofs.Reported.{texts_further}
use Rattle.running.proofs.SoFar.{calls_are, report_is}
use Rattle.session.specs.Writes.{IsBeginning}

-- a report begins with the texts of its first batches
pub report-begins : (start : Start) (log : List ℕ) (ended left : List (List Call)) → batches_said start.procs start.retries log ≡ ended ++ left →
    IsBeginning (texts_of start ended) (report_of start log)
report-begins start log ended left h =
    let fault : Option LogFault = log_fault start log in
    let more : List (List Call) = closed start.retries (is_some fault) (standing_after start ended) left in
    let further = texts_further start ended more in
    let end : List ℕ = end_text (is_some fault) start.digest start.procs.tables start.rows (transactions_in start.retries start.rows (ended ++ more)) in (
      further.0 ++ end,
      report_is start log (ended ++ more) fault (calls_are start log ended left fault h refl) refl ∙ ap (λ (x : List ℕ). x ++ end) further.1
          ∙ append_assoc (texts_of start ended) further.0 end,
    )

-- wherever a log was read that goes on so
pub at-begins : (start : Start) (place : Place) (ended : List (List Call)) (fed more : List ℕ) → place.retries ≡ start.retries → IsAt start.procs place ended fed →
    IsBeginning (texts_of start ended) (report_of start (fed ++ more))
at-begins start place ended fed more e at =
    let read = rw e at (at.batches more) in report-begins start (fed ++ more) ended _ read

-- up to a fault they are all of it
pub report-faulty : (start : Start) (log : List ℕ) (ended : List (List Call)) (found : LogFault) → IsFaulty start.procs start.retries found ended log →
    texts_of start ended ≡ report_of start log
report-faulty start log ended found h =
    let calls : calls_in_turn start log ≡ ended = calls_are start log ended [] (Some found) (h.batches ∙ sym (append-nil ended)) h.first ∙ append-nil ended in
    sym (report_is start log ended (Some found) calls h.first ∙ append-nil (texts_of start ended))

-- without a fault those that close the log stand after them, and then the end line
pub calls-whole : (start : Start) (log : List ℕ) (ended : List (List Call)) → IsWhole start.procs start.retries [] ended log → calls_in_turn start log ≡ with_closing start ended
calls-whole start log ended h = calls_are start log ended [] None h.batches h.fault

pub report-whole : (start : Start) (log : List ℕ) (ended : List (List Call)) → IsWhole start.procs start.retries [] ended log →
    report_of start log ≡ texts_of start (with_closing start ended) ++ end_text false start.digest start.procs.tables start.rows (transactions_in start.retries start.rows (with_closing start ended))
report-whole start log ended h = report_is start log (with_closing start ended) None (calls-whole start log ended h) h.fault

pub counted-whole : (start : Start) (log : List ℕ) (ended : List (List Call)) → IsWhole start.procs start.retries [] ended log →
    length (all_transactions (batches_in start log)) ≡ (standing_after start (with_closing start ended)).next
counted-whole start log ended h =
    ap (λ (bs : List (List Call)). length (all_transactions (in_turn start.retries (start_of start.rows) bs))) (calls-whole start log ended h)
    ∙ sym (next_is start.retries start.rows (with_closing start ended))

pub closing-begins : (start : Start) (log : List ℕ) (ended : List (List Call)) → IsWhole start.procs start.retries [] ended log →
    IsBeginning (texts_of start (with_closing start ended)) (report_of start log)
closing-begins start log ended h = (end_text false start.digest start.procs.tables start.rows (transactions_in start.retries start.rows (with_closing start ended)), report-whole start log ended h)
