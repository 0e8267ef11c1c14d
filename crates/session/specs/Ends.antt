-- Claimed: what contracts promise to a reader rests on these words.
-- How the run of a log ends, and what was reported by then.
use Rattle.std.specs.Prelude.{◌≡◌, ℕ, List, length, Option, Some, None, false}
use Rattle.values.specs.Database.{Database}
use Rattle.batch_log.specs.declared.fault.LogFault.{LogFault}
use Rattle.batch_log.specs.Faults.{is_io, IsOfLine}
use Rattle.report_text.specs.Report.{all_transactions}
use Rattle.running.specs.Reports.{batches_in, log_fault, report_of, rows_after}
use Rattle.running.specs.Starts.{Start}
use Rattle.session.specs.Replies.{replies_of, AreFirstReplies, AreReplies, NumberedReply}
use Rattle.session.specs.Writes.{IsBeginning}

-- The log has no fault, what was reported is its report, the replies, where they are kept, are its replies, these are
-- the rows that it leaves, and this is the number of its transactions.
pub record IsWholeRun (start : Start) (log reported : List ℕ) (replies : Option (List NumberedReply)) (rows : Database)
    (count : ℕ) : Type 0 where
  pub sound : log_fault start log ≡ None
  pub report : reported ≡ report_of start log
  pub replied : AreReplies replies (replies_of start log)
  pub left : rows ≡ rows_after start log
  pub counted : count ≡ length (all_transactions (batches_in start log))

-- This fault ended the run of a log. One of a line is the log's first, and all was reported of the batches before it,
-- and their replies are there, where replies are kept. Else an allocation failed, and what was reported is a beginning
-- of the log's report, and the replies are the first of its replies.
pub record IsRunInto (start : Start) (log reported : List ℕ) (replies : Option (List NumberedReply)) (fault : LogFault)
    : Type 0 where
  pub first : IsOfLine fault.kind →
      (log_fault start log ≡ Some fault)
      × (reported ≡ report_of start log)
      × AreReplies replies (replies_of start log)
  pub front : IsBeginning reported (report_of start log)
  pub replied : AreFirstReplies replies (replies_of start log)
  pub no_device : is_io fault.kind ≡ false
