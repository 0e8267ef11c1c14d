use Rattle.std.proofs.Common.{◌≡◌, ◌-◌, List, ℕ}
use Rattle.engine.specs.Executions.{KeepsSetting}
use Rattle.running.specs.Hashers.{form_of}
use Rattle.running.specs.Reported.{IsBetweenBatches}
use Rattle.running.specs.Starts.{Start}
use Rattle.session.specs.Replies.{kept_in, KeepsReplies, NumberedReply}
use Rattle.session.specs.Reports.{waiting_in}
use Rattle.session.specs.Works.{HasClosed, HasRead}
use Rattle.session.specs.Writes.{IsBeginning}
use Rattle.session.proofs.work.Work.close.Given as goal

-- Of the batches that close a log the first ones are executed and reported, and at most as many are left as turns are.
abbrev pub invariant-loop-turn : goal.invariant-loop-turn
invariant-loop-turn l = record {
  between : IsBetweenBatches l.self.engine l.self.transcript;
  setting : KeepsSetting l.fn.self.engine l.self.engine × (form_of l.self.transcript ≡ form_of l.fn.self.transcript);
  closed : (start : Start) (log drained : List ℕ) (passed : List NumberedReply) (h : HasRead start log drained passed l.fn.self) →
      HasClosed start drained passed h.ended (l.fn.self.engine.retries - l._turn) l.self;
  kept : IsBeginning (waiting_in l.fn.self.report) (waiting_in l.self.report);
  replies : KeepsReplies (kept_in l.fn.self.replies) (kept_in l.self.replies);
}
