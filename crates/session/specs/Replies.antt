-- Claimed: what contracts promise to a reader rests on these words.
-- Replies that are handed out one by one.
use Rattle.std.specs.Prelude.{◌≡◌, ℕ, List, [], ◌∷◌, ◌++◌, map, Option, None, Some, option_map, unwrap_or, IfSome, ⊤}
use Rattle.std.specs.List.{zip}
use Rattle.requests.specs.Requests.{Call}
use Rattle.meaning.specs.Entries as meant
use Rattle.meaning.specs.Outcomes.{as_reply}
use Rattle.sequencer.specs.Attempts.{first_of, numbered_from, Numbered}
use Rattle.retries.specs.Standings.{after_batch, attempts_at, replies_at, start_of, Standing}
use Rattle.engine.specs.declared.replies.Reply.{Reply as EngineReply}
use Rattle.running.specs.Reports.{calls_in_turn}
use Rattle.running.specs.Starts.{Start}
use Rattle.session.specs.declared.replies.Replies.{Replies}
use Rattle.session.specs.declared.replies.Reply.{Reply}
use Rattle.session.specs.Writes.{IsBeginning}

-- ---- the replies of a log

-- a reply, with the number of its transaction and that of the first attempt of its request
pub record NumberedReply : Type 0 where
  pub transaction : ℕ
  pub first : ℕ
  pub reply : meant.Reply

-- the reply that a numbered attempt has
abbrev pub reply_to : Numbered × meant.Reply → NumberedReply
reply_to ended = record {
  transaction = ended.0.no;
  first = first_of ended.0.no ended.0.attempt.before;
  reply = ended.1;
}

-- the replies of the next batch, of these calls: one for each attempt, those that are carried to it first
abbrev pub batch_replies : Standing → List Call → List NumberedReply
batch_replies s calls = map reply_to (zip (numbered_from s.next (attempts_at s calls)) (replies_at s calls))

-- the replies of batches, one after another
abbrev pub replies_in_turn : ℕ → Standing → List (List Call) → List NumberedReply
replies_in_turn retries s [] = []
replies_in_turn retries s (calls ∷ rest) =
    batch_replies s calls ++ replies_in_turn retries (after_batch retries s calls) rest

-- the replies of batches from a start
abbrev pub replies_after : Start → List (List Call) → List NumberedReply
replies_after start batches = replies_in_turn start.retries (start_of start.rows) batches

-- the replies of a log from a start: of the batches that are whole before its first fault, and where it has none, of
-- those that close it, too
abbrev pub replies_of : Start → List ℕ → List NumberedReply
replies_of start log = replies_after start (calls_in_turn start log)

-- ---- replies that wait

-- a reply of the engine
abbrev pub numbered : EngineReply → NumberedReply
numbered reply = record {
  transaction = reply.no;
  first = unwrap_or reply.of reply.no;
  reply = as_reply reply.outcome;
}

-- a reply that is handed out
abbrev pub handed_out : Reply → NumberedReply
handed_out reply = record { transaction = reply.transaction; first = reply.first; reply = as_reply reply.outcome }

-- the replies that wait, where replies are kept
abbrev pub kept_in : Replies → Option (List NumberedReply)
kept_in replies = option_map (λ waiting. map numbered waiting.items) replies.waiting

-- the first of the replies that wait
abbrev pub first_kept : Option (List NumberedReply) → Option NumberedReply
first_kept None = None
first_kept (Some []) = None
first_kept (Some (reply ∷ replies)) = Some reply

-- those that wait after it
abbrev pub after_first : Option (List NumberedReply) → Option (List NumberedReply)
after_first None = None
after_first (Some []) = Some []
after_first (Some (reply ∷ replies)) = Some replies

-- where replies are kept, these come after those that wait
abbrev pub kept_with : Option (List NumberedReply) → List NumberedReply → Option (List NumberedReply)
kept_with kept more = option_map (λ waiting. waiting ++ more) kept

-- where replies are kept: those that no longer wait, and then those that do
abbrev pub all_replies : List NumberedReply → Option (List NumberedReply) → Option (List NumberedReply)
all_replies passed kept = option_map (λ waiting. passed ++ waiting) kept

-- where replies are kept, they are these
abbrev pub AreReplies : Option (List NumberedReply) → List NumberedReply → Type 0
AreReplies kept all = IfSome kept (λ replies. replies ≡ all)

-- where replies are kept, they are the first of these
abbrev pub AreFirstReplies : Option (List NumberedReply) → List NumberedReply → Type 0
AreFirstReplies kept all = IfSome kept (λ replies. IsBeginning replies all)

-- replies that waited wait still, before those that came after them
abbrev pub KeepsReplies : Option (List NumberedReply) → Option (List NumberedReply) → Type 0
KeepsReplies None None = ⊤
KeepsReplies None (Some new) = ⊥
KeepsReplies (Some old) None = ⊥
KeepsReplies (Some old) (Some new) = IsBeginning old new
