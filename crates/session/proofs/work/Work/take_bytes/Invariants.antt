use Rattle.std.proofs.Common.{take}
use Rattle.session.specs.Replies.{kept_in, KeepsReplies}
use Rattle.session.specs.Reports.{waiting_in}
use Rattle.session.specs.Works.{Continues, IsReady}
use Rattle.session.specs.Writes.{IsBeginning}
use Rattle.session.proofs.work.Work.take_bytes.Given as goal

-- the bytes before this one were taken
abbrev pub invariant-loop-byte : goal.invariant-loop-byte
invariant-loop-byte l = record {
  ready : IsReady l.self;
  taken : Continues l.fn.self (take l.byte-index l.bytes) l.self;
  kept : IsBeginning (waiting_in l.fn.self.report) (waiting_in l.self.report);
  replies : KeepsReplies (kept_in l.fn.self.replies) (kept_in l.self.replies);
}
