use Rattle.std.proofs.Common.{◌≡◌, ◌≤◌, ◌+◌, ◌-◌, false, None, length, vec_len}
use Rattle.std.specs.List.{AllByRecursion}
use Rattle.devices.specs.Devices.{Passes}
use Rattle.devices.specs.LineReader.{failed_in, fault_of, has_ended, newlines_taken, origin_of, position_of, unread}
use Rattle.batch_log.specs.Lines.{lines_said}
use Rattle.batch_log.specs.Log.{limited, log_said, most_calls}
use Rattle.batch_log.specs.Moves.{Moves}
use Rattle.batch_log.proofs.Batches.{Reads}
use Rattle.batch_log.proofs.Taken.{CallsSoFar}
use Rattle.batch_log.proofs.batch.read_batch.Given as goal

abbrev pub invariant-lines : goal.invariant-lines
invariant-lines g l = record {
  same : origin_of l.lines ≡ origin_of l.initial.lines;
  taken : Passes (λ xs ys. Reads (log_said l.retries l.procs.procs (newlines_taken l.initial.lines) l.initial.total xs) l.calls.items
      (limited l.retries (length l.calls.items) l.total (lines_said l.procs.procs (newlines_taken l.lines) ys)))
      (unread g.S.Source.left l.initial.lines) (unread g.S.Source.left l.lines);
  lines_so_far : Passes (CallsSoFar l.procs.procs (length l.calls.items)) (unread g.S.Source.left l.initial.lines) (unread g.S.Source.left l.lines);
  moves : Moves (unread g.S.Source.left l.initial.lines) (unread g.S.Source.left l.lines) (position_of l.initial.lines) (position_of l.lines);
  tables : AllByRecursion (λ c. c.proc.tables ≡ l.procs.tables) l.calls.items;
  few : length l.calls.items ≤ 4096;
  room : l.total ≤ most_calls l.retries;
  counted : l.total ≡ l.initial.total + length l.calls.items;
  stays : fault_of l.initial.lines ≡ None → fault_of l.lines ≡ None;
  fails : fault_of l.initial.lines ≡ None → failed_in g.S.Source.failed l.lines ≡ failed_in g.S.Source.failed l.initial.lines;
  goes_on : fault_of l.initial.lines ≡ None → has_ended l.initial.lines ≡ false → has_ended l.lines ≡ false;
}

abbrev pub decreases-lines : goal.decreases-lines
decreases-lines g l = 4096 - vec_len l.calls
