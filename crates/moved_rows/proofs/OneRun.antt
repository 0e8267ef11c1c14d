-- Starts of one setup have one run.
use Rattle.std.proofs.Common.{◌≡◌, ℕ, List, Option, refl, sym, ◌∙◌, subst}
use Rattle.std.specs.Prelude.{is_some}
use Rattle.batch_log.specs.Places.{batches_said, fault_said}
use Rattle.batch_log.specs.declared.fault.LogFault.{LogFault}
use Rattle.report_text.specs.Report as texts
use Rattle.retries.specs.Standings.{closed, start_of}
use Rattle.setup.specs.Setups.{SetupShape}
use Rattle.running.specs.Reports.{batches_in, calls_in_turn, log_fault, report_of, rows_after}
use Rattle.running.specs.Starts.{Start}
use Rattle.moved_rows.specs.GoingOn.{outcomes_of}
use Rattle.moved_rows.specs.Starts.{IsStartOf}
use Rattle.moved_rows.proofs.Pairs.{Pairs}
use Rattle.moved_rows.proofs.SameCalls.{AreSameCall, AreSameProc, log_batches_same, log_fault_same, same_procs}
use Rattle.moved_rows.proofs.SameRuns.{AreSameStanding, after_same, closed_same, outcomes_same, turns_same}

-- what two starts have alike on a log
pub record HaveOneRun (log : List ℕ) (a b : Start) : Type 0 where
  pub fault : log_fault a log ≡ log_fault b log
  pub report : report_of a log ≡ report_of b log
  pub rows : rows_after a log ≡ rows_after b log
  pub outcomes : outcomes_of a log ≡ outcomes_of b log

-- the second, with all but the procedures of the first
abbrev other : Start → Start → Start
other a b = record { procs = b.procs; retries = a.retries; rows = a.rows; digest = a.digest }

module _ (log : List ℕ) (a b : Start) (tables : a.procs.tables ≡ b.procs.tables) (same : Pairs AreSameProc a.procs.procs b.procs.procs) where
  fault_is : log_fault a log ≡ fault_said b.procs a.retries log
  fault_is = log_fault_same a.procs.procs b.procs.procs same a.retries log

  begin_is : AreSameStanding (start_of a.rows) (start_of a.rows)
  begin_is = record { next = refl; rows = refl; carried = tt }

  batches_are : Pairs (Pairs AreSameCall) (calls_in_turn a log) (calls_in_turn (other a b) log)
  batches_are =
      subst (λ (fault : Option LogFault). Pairs (Pairs AreSameCall) (calls_in_turn a log)
      (closed a.retries (is_some fault) (start_of a.rows) (batches_said b.procs a.retries log))) fault_is
      (closed_same a.retries (is_some (log_fault a log)) (start_of a.rows) (start_of a.rows) (batches_said a.procs a.retries log) (batches_said b.procs a.retries log)
      begin_is (log_batches_same a.procs.procs b.procs.procs same a.retries log))

  turns_are : batches_in a log ≡ batches_in (other a b) log
  turns_are = turns_same a.retries (start_of a.rows) (start_of a.rows) (calls_in_turn a log) (calls_in_turn (other a b) log) begin_is batches_are

  with_other : HaveOneRun log a (other a b)
  with_other = record {
    fault = fault_is;
    report = λ i. texts.report a.digest (tables i) a.rows (turns_are i) (is_some (fault_is i));
    rows = (after_same a.retries (start_of a.rows) (start_of a.rows) (calls_in_turn a log) (calls_in_turn (other a b) log) begin_is batches_are).rows;
    outcomes = outcomes_same a.retries (start_of a.rows) (start_of a.rows) (calls_in_turn a log) (calls_in_turn (other a b) log) begin_is batches_are;
  }

pub one_run : (s : SetupShape) (a b : Start) (log : List ℕ) → IsStartOf s a → IsStartOf s b → HaveOneRun log a b
one_run s a b log h k =
    let retries : a.retries ≡ b.retries = h.retries ∙ sym k.retries in
    let rows : a.rows ≡ b.rows = h.rows ∙ sym k.rows in
    let digest : a.digest ≡ b.digest = h.digest ∙ sym k.digest in
    let is : other a b ≡ b = λ i. record { procs = b.procs; retries = retries i; rows = rows i; digest = digest i } in
    subst (HaveOneRun log a) is
    (with_other log a b (h.tables ∙ sym k.tables) (same_procs s.tables a.procs.procs b.procs.procs h.over k.over (h.procs ∙ sym k.procs)))
