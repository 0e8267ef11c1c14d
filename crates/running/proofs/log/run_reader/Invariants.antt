use Rattle.std.proofs.Common.{◌≡◌, None, false}
use Rattle.batch_log.specs.Reader.{calls_read, failed_in, fault_of, has_ended, newlines_taken, origin_of, position_of, retries_of, unread}
use Rattle.batch_log.specs.Moves.{Moves}
use Rattle.engine.specs.Engines.{is_busy}
use Rattle.engine.specs.Executions.{KeepsSetting}
use Rattle.running.specs.Batches.{KeepsDigest}
use Rattle.running.specs.Starts.{start_on}
use Rattle.running.proofs.SoFar.{SoFar}
use Rattle.running.proofs.Stopping.{nothing_taken}
use Rattle.running.proofs.log.run_reader.Given as goal

-- between batches the engine holds none, and what came of the log so far was written
abbrev pub invariant-batches : goal.invariant-batches
invariant-batches g l = record {
  idle : is_busy l.engine.core ≡ false;
  same : origin_of l.reader ≡ origin_of l.fn.reader;
  setting : KeepsSetting l.fn.engine.core l.engine.core;
  retries : retries_of l.reader ≡ l.fn.engine.core.retries;
  no_fault : fault_of l.reader ≡ None;
  moves : Moves (unread g.S.Source.left l.fn.reader) (unread g.S.Source.left l.reader) nothing_taken (position_of l.reader);
  goes_on : has_ended l.reader ≡ false;
  source_works : failed_in g.S.Source.failed l.reader ≡ failed_in g.S.Source.failed l.fn.reader;
  sink_works : g.K.Sink.broken l.sink ≡ g.K.Sink.broken l.fn.sink;
  digest : KeepsDigest l.engine.core l.transcript;
  so_far : SoFar (start_on l.fn.engine.core l.fn.form) (newlines_taken l.reader) (calls_read l.reader)
      l.engine.core l.transcript
      (unread g.S.Source.left l.fn.reader) (unread g.S.Source.left l.reader)
      (g.K.Sink.taken l.fn.sink) (g.K.Sink.taken l.sink);
}
