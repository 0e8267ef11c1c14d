-- The session that keeps replies is that which lies at the handle.
use Rattle.std.proofs.Common.{ℕ, List, subst}
use Rattle.running.specs.Starts.{Start}
use Rattle.session.specs.Replies.{NumberedReply}
use Rattle.session.specs.Sessions.{HasTaken}
use Rattle.calvin_c.specs.declared.opened.Opened.{Opened}
use Rattle.calvin_c.proofs.replies.calvin_c_keep_replies.Goals as goal

pub returns-clause-taken : goal.returns-clause-taken
returns-clause-taken c =
    subst (λ (x : Opened). (start : Start) (fed drained : List ℕ) (passed : List NumberedReply) → HasTaken start fed drained passed x.session
    → (before : List NumberedReply) × HasTaken start fed drained before c.keep_replies.new.self) c.opened.ensures.value c.keep_replies.ensures.taken
