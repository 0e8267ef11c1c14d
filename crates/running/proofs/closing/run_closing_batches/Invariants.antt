use Rattle.std.proofs.Common.{◌≡◌, ◌-◌, List, Option, ℕ}
use Rattle.requests.specs.Requests.{Call}
use Rattle.engine.specs.Executions.{KeepsSetting}
use Rattle.running.specs.Reported.{HasClosed, HasReported, IsBetweenBatches}
use Rattle.running.specs.Starts.{Start}
use Rattle.running.proofs.closing.run_closing_batches.Given as goal

-- Whatever batches were reported before, those that close the log after them are reported so far, and at most as many are left as
-- turns are.
abbrev pub invariant-loop-turn : goal.invariant-loop-turn
invariant-loop-turn g l = record {
  same : KeepsSetting (g.E.BatchEngine.parts l.fn.engine) (g.E.BatchEngine.parts l.engine);
  between : IsBetweenBatches (g.E.BatchEngine.parts l.engine) l.transcript;
  sink_works : g.K.Sink.broken l.sink ≡ g.K.Sink.broken l.fn.sink;
  closed : (start : Start) (ran : List (List Call)) (before : Option (List ℕ)) →
      HasReported start ran (g.E.BatchEngine.parts l.fn.engine) l.fn.transcript before (g.K.Sink.taken l.fn.sink) →
      HasClosed start ran ((g.E.BatchEngine.parts l.fn.engine).retries - l._turn) (g.E.BatchEngine.parts l.engine) l.transcript before (g.K.Sink.taken l.sink);
}
