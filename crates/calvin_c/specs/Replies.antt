-- Claimed: what contracts promise to a reader rests on these words.
-- Replies as C sees them.
use Rattle.std.specs.Prelude.{◌≡◌, ℕ, ℤ, List, Option, Some, None}
use Rattle.footprint.specs.AbortCodes.{number_of}
use Rattle.meaning.specs.Entries.{Reply, commit, aborted, stale}
use Rattle.session.specs.Replies.{NumberedReply}
use Rattle.calvin_c.specs.declared.replies.ReplyHead.{ReplyHead}
use Rattle.calvin_c.specs.declared.cells.ValueCell.{ValueCell}
use Rattle.calvin_c.specs.Statuses.{done, none}
use Rattle.calvin_c.specs.Values.{AreValues}

-- what a transaction answers: its kind, the code of an abort, and the values of a commit, as many as fit
abbrev pub IsOutcome : ℕ → ℕ → ℕ → List ValueCell → Reply → Type 0
IsOutcome kind code count cells (commit values) = (kind ≡ 0) × (code ≡ 0) × AreValues count cells values
IsOutcome kind code count cells (aborted abort) = (kind ≡ 1) × (code ≡ number_of abort) × (count ≡ 0)
IsOutcome kind code count cells stale = (kind ≡ 2) × (code ≡ 0) × (count ≡ 0)

-- C is given this reply
pub record IsReply (head : ReplyHead) (cells : List ValueCell) (reply : NumberedReply) : Type 0 where
  pub number : head.number ≡ reply.transaction
  pub first : head.first ≡ reply.first
  pub outcome : IsOutcome head.kind head.code head.length cells reply.reply

-- whether a reply waits
abbrev pub reply_status : Option NumberedReply → ℤ
reply_status None = none
reply_status (Some reply) = done
