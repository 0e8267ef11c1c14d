-- Claimed: what contracts promise to a reader rests on these words.
-- The report of a log on a setup.
use Rattle.std.specs.Prelude.{ℕ, List, is_some, Option}
use Rattle.values.specs.Database.{Database}
use Rattle.requests.specs.Requests.{Call}
use Rattle.batch_log.specs.declared.fault.LogFault.{LogFault}
use Rattle.batch_log.specs.Places.{batches_said, fault_said}
use Rattle.report_text.specs.Report.{Transaction}
use Rattle.report_text.specs.Report as texts
use Rattle.retries.specs.Standings.{closed, in_turn, start_of}
use Rattle.running.specs.Standings.{standing_after}
use Rattle.running.specs.Starts.{Start}

-- the first fault of a log
abbrev pub log_fault : Start → List ℕ → Option LogFault
log_fault start log = fault_said start.procs start.retries log

-- the calls of the batches of a run: those that are whole before the log's first fault, and where it has none, those
-- without calls that close it
abbrev pub calls_in_turn : Start → List ℕ → List (List Call)
calls_in_turn start log =
    closed start.retries (is_some (log_fault start log)) (start_of start.rows)
    (batches_said start.procs start.retries log)

-- the transactions of these batches: what is carried to a batch, and after it the batch's calls
abbrev pub batches_in : Start → List ℕ → List (List Transaction)
batches_in start log = in_turn start.retries (start_of start.rows) (calls_in_turn start log)

-- the rows that a log leaves, from a start: those after the last batch of its run
abbrev pub rows_after : Start → List ℕ → Database
rows_after start log = (standing_after start (calls_in_turn start log)).rows

-- rule: option.report
-- what is written for a log from a start: the texts of its batches, and the end line if it has no
-- fault
abbrev pub report_of : Start → List ℕ → List ℕ
report_of start log =
    texts.report start.digest start.procs.tables start.rows (batches_in start log) (is_some (log_fault start log))
