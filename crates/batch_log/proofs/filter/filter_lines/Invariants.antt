use Rattle.std.proofs.Common.{◌≡◌, None}
use Rattle.devices.specs.LineReader.{failed_in, fault_of, origin_of, unread}
use Rattle.batch_log.specs.FilterSteps.{FilteredSoFar}
use Rattle.batch_log.proofs.filter.filter_lines.Given as goal

-- the lines so far were looked at, and those of them that say a call or a cut were written
abbrev pub invariant-lines : goal.invariant-lines
invariant-lines g l = record {
  same : origin_of l.lines ≡ origin_of l.fn.lines;
  no_fault : fault_of l.lines ≡ None;
  source_works : failed_in g.S.Source.failed l.lines ≡ failed_in g.S.Source.failed l.fn.lines;
  sink_works : g.K.Sink.broken l.sink ≡ g.K.Sink.broken l.fn.sink;
  so_far : FilteredSoFar l.procs.procs l.all_taken (unread g.S.Source.left l.fn.lines) (unread g.S.Source.left l.lines)
      (g.K.Sink.taken l.fn.sink) (g.K.Sink.taken l.sink);
}
