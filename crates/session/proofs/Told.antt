-- The replies of batches one after another, and those that wait.
use Rattle.std.proofs.Common.{◌≡◌, ℕ, ◌+◌, List, [], ◌∷◌, ◌++◌, append_assoc, append-nil, map, Option, None, Some, is_some, IsSome, option_map, option_to_list, unwrap_or, Result, Ok, Err, OnOk, OnErr, refl, sym, ◌∙◌, ap, subst}
use Rattle.std.specs.List.{zip}
use Rattle.requests.specs.Requests.{Call}
use Rattle.meaning.specs.Entries as meant
use Rattle.meaning.specs.Entries.{EntryShape}
use Rattle.meaning.specs.Serial.{serial_replies}
use Rattle.batch_log.specs.declared.fault.LogFault.{LogFault}
use Rattle.batch_log.specs.Places.{batches_said, IsAt, IsFaulty, IsWhole, Place}
use Rattle.sequencer.specs.Attempts.{first_of, numbered_from, Attempt, Earlier}
use Rattle.retries.specs.Standings.{after_batch, after_batches, attempts_at, closed, replies_at, start_of, Standing}
use Rattle.engine.specs.declared.replies.BatchDone.{BatchDone}
use Rattle.engine.specs.declared.replies.Reply.{Reply as EngineReply}
use Rattle.engine.specs.Engines.{EngineParts}
use Rattle.engine.specs.Executions.{IsExecutionOf}
use Rattle.engine.specs.Replies.{first_attempt, reply_of, sent_from, sent_of, Sent}
use Rattle.running.specs.Reported.{with_closing}
use Rattle.running.specs.Reports.{calls_in_turn, log_fault}
use Rattle.running.specs.Standings.{standing_after, standing_of}
use Rattle.running.specs.Starts.{Start}
use Rattle.running.proofs.ReplyLines.{entries_are}
use Rattle.running.proofs.SoFar.{calls_are}
use Rattle.session.specs.declared.replies.Replies.{Replies}
use Rattle.session.specs.declared.replies.Reply.{Reply}
use Rattle.session.specs.Replies.{after_first, all_replies, batch_replies, first_kept, handed_out, kept_in, kept_with, numbered, replies_after, replies_in_turn, replies_of, reply_to, AreFirstReplies, AreReplies, KeepsReplies, NumberedReply}
use Rattle.session.specs.Works.{HasReplied}
use Rattle.session.specs.Writes.{IsBeginning}
use Rattle.session.proofs.Growing.{begins_itself, begins_onward}
use Rattle.session.proofs.Turns.{calls-whole}

-- ---- one batch

-- the number of the first attempt
first_is : (n : ℕ) (before : Option Earlier) → unwrap_or (option_map (λ (earlier : Earlier). earlier.first) before) n ≡ first_of n before
first_is n None = refl
first_is n (Some earlier) = refl

abbrev made : ℕ → ℕ → meant.Reply → NumberedReply
made transaction first reply = record { transaction = transaction; first = first; reply = reply }

one_is : (n : ℕ) (a : Attempt) (r : EngineReply) (p : meant.Reply) → r.no ≡ n → r.of ≡ first_attempt a → reply_of r ≡ p → numbered r ≡ reply_to (record { no = n; attempt = a }, p)
one_is n a r p number of_is reply =
    ap (λ (k : ℕ). made k (unwrap_or r.of k) (reply_of r)) number ∙ ap (λ (o : Option ℕ). made n (unwrap_or o n) (reply_of r)) of_is
    ∙ ap (λ (k : ℕ). made n k (reply_of r)) (first_is n a.before) ∙ ap (λ (q : meant.Reply). made n (first_of n a.before) q) reply

told_as : (n : ℕ) (rs : List EngineReply) (attempts : List Attempt) (replies : List meant.Reply) → map sent_of rs ≡ sent_from n attempts → map reply_of rs ≡ replies →
    map numbered rs ≡ map reply_to (zip (numbered_from n attempts) replies)
told_as n [] [] [] e f = refl
told_as n [] [] (p ∷ ps) e f = absurd cc
told_as n [] (a ∷ as_) replies e f = absurd cc
told_as n (r ∷ rs) [] replies e f = absurd cc
told_as n (r ∷ rs) (a ∷ as_) [] e f = absurd cc
told_as n (r ∷ rs) (a ∷ as_) (p ∷ ps) e f =
    let head : sent_of r ≡ record { transaction = n; client = a.client; number = a.number; of = first_attempt a } = cc in
    let reply : reply_of r ≡ p = cc in
    let sent : map sent_of rs ≡ sent_from (n + 1) as_ = cc in
    let replied : map reply_of rs ≡ ps = cc in
    let rest : map numbered rs ≡ map reply_to (zip (numbered_from (n + 1) as_) ps) = told_as (n + 1) rs as_ ps sent replied in
    ap (λ (x : NumberedReply). x ∷ map numbered rs) (one_is n a r p (ap (λ (s : Sent). s.transaction) head) (ap (λ (s : Sent). s.of) head) reply)
    ∙ ap (λ (xs : List NumberedReply). reply_to (record { no = n; attempt = a }, p) ∷ xs) rest

-- the replies of a batch that was executed
pub batch_told : (old new : EngineParts) (calls : List Call) (run : BatchDone) → IsExecutionOf old new (attempts_at (standing_of old) calls) run → map numbered run.replies.items ≡ batch_replies (standing_of old) calls
batch_told old new calls run ran =
    told_as old.next run.replies.items (attempts_at (standing_of old) calls) (replies_at (standing_of old) calls) ran.sent
    (ran.replies ∙ ap (λ (es : List EntryShape). serial_replies es old.rows) (entries_are old.rows (attempts_at (standing_of old) calls)))

-- ---- batches one after another

in_turn_grown : (retries : ℕ) (s : Standing) (batches more : List (List Call)) → replies_in_turn retries s (batches ++ more) ≡ replies_in_turn retries s batches ++ replies_in_turn retries (after_batches retries s batches) more
in_turn_grown retries s [] more = refl
in_turn_grown retries s (calls ∷ batches) more =
    let after : Standing = after_batch retries s calls in
    ap (λ (rs : List NumberedReply). batch_replies s calls ++ rs) (in_turn_grown retries after batches more)
    ∙ sym (append_assoc (batch_replies s calls) (replies_in_turn retries after batches) (replies_in_turn retries (after_batches retries after batches) more))

pub replies_grown : (start : Start) (ended more : List (List Call)) → replies_after start (ended ++ more) ≡ replies_after start ended ++ replies_in_turn start.retries (standing_after start ended) more
replies_grown start ended more = in_turn_grown start.retries (start_of start.rows) ended more

pub replies_next : (start : Start) (ended : List (List Call)) (calls : List Call) → replies_after start (ended ++ calls ∷ []) ≡ replies_after start ended ++ batch_replies (standing_after start ended) calls
replies_next start ended calls =
    replies_grown start ended (calls ∷ [])
    ∙ ap (λ (rs : List NumberedReply). replies_after start ended ++ rs) (append-nil (batch_replies (standing_after start ended) calls))

-- the replies of some batches come before those of more
pub replies_further : (start : Start) (ended more : List (List Call)) → IsBeginning (replies_after start ended) (replies_after start (ended ++ more))
replies_further start ended more = (replies_in_turn start.retries (standing_after start ended) more, replies_grown start ended more)

-- ---- the replies of a log

-- they begin with those of its first batches
pub replies-begin : (start : Start) (log : List ℕ) (ended left : List (List Call)) → batches_said start.procs start.retries log ≡ ended ++ left →
    IsBeginning (replies_after start ended) (replies_of start log)
replies-begin start log ended left h =
    let fault : Option LogFault = log_fault start log in
    let more : List (List Call) = closed start.retries (is_some fault) (standing_after start ended) left in
    let further = replies_further start ended more in
    (further.0, ap (replies_after start) (calls_are start log ended left fault h refl) ∙ further.1)

-- wherever a log was read that goes on so
pub at-replies-begin : (start : Start) (place : Place) (ended : List (List Call)) (fed more : List ℕ) → place.retries ≡ start.retries → IsAt start.procs place ended fed →
    IsBeginning (replies_after start ended) (replies_of start (fed ++ more))
at-replies-begin start place ended fed more e at =
    let read = rw e at (at.batches more) in replies-begin start (fed ++ more) ended _ read

-- up to a fault they are all of them
pub replies-faulty : (start : Start) (log : List ℕ) (ended : List (List Call)) (found : LogFault) → IsFaulty start.procs start.retries found ended log →
    replies_after start ended ≡ replies_of start log
replies-faulty start log ended found h =
    let calls : calls_in_turn start log ≡ ended = calls_are start log ended [] (Some found) (h.batches ∙ sym (append-nil ended)) h.first ∙ append-nil ended in
    sym (ap (replies_after start) calls)

-- without a fault those of the batches that close the log are among them
pub replies-whole : (start : Start) (log : List ℕ) (ended : List (List Call)) → IsWhole start.procs start.retries [] ended log →
    replies_after start (with_closing start ended) ≡ replies_of start log
replies-whole start log ended h = sym (ap (replies_after start) (calls-whole start log ended h))

-- ---- replies that are kept

-- those of one more batch came
next_of : (kept new : Option (List NumberedReply)) (passed all more whole : List NumberedReply) → AreReplies (all_replies passed kept) all → new ≡ kept_with kept more → all ++ more ≡ whole →
    AreReplies (all_replies passed new) whole
next_of None new passed all more whole h e f = subst (λ (k : Option (List NumberedReply)). AreReplies (all_replies passed k) whole) (sym e) tt
next_of (Some waiting) new passed all more whole h e f =
    subst (λ (k : Option (List NumberedReply)). AreReplies (all_replies passed k) whole) (sym e)
    (sym (append_assoc passed waiting more) ∙ ap (λ (rs : List NumberedReply). rs ++ more) h ∙ f)

pub replied_next : (start : Start) (ended : List (List Call)) (calls : List Call) (passed : List NumberedReply) (s : Standing) (old new : Replies) → s ≡ standing_after start ended →
    HasReplied start ended passed old → kept_in new ≡ kept_with (kept_in old) (batch_replies s calls) → HasReplied start (ended ++ calls ∷ []) passed new
replied_next start ended calls passed s old new e h more =
    next_of (kept_in old) (kept_in new) passed (replies_after start ended) (batch_replies s calls) (replies_after start (ended ++ calls ∷ [])) h more
    (ap (λ (t : Standing). replies_after start ended ++ batch_replies t calls) e ∙ sym (replies_next start ended calls))

-- none came
pub replied_still : (start : Start) (ended : List (List Call)) (passed : List NumberedReply) (old new : Replies) → HasReplied start ended passed old → kept_in new ≡ kept_in old → HasReplied start ended passed new
replied_still start ended passed old new h e =
    subst (λ (k : Option (List NumberedReply)). AreReplies (all_replies passed k) (replies_after start ended)) (sym e) h

-- none is kept
pub replied_none : (start : Start) (replies : Replies) → kept_in replies ≡ None → HasReplied start [] [] replies
replied_none start replies e = subst (λ (k : Option (List NumberedReply)). AreReplies (all_replies [] k) []) (sym e) tt

-- they are the first of all
pub first_of_all : (kept : Option (List NumberedReply)) (all whole : List NumberedReply) → AreReplies kept all → IsBeginning all whole → AreFirstReplies kept whole
first_of_all None all whole h b = tt
first_of_all (Some replies) all whole h b = (b.0, b.1 ∙ ap (λ (rs : List NumberedReply). rs ++ b.0) (sym h))

pub all_of : (kept : Option (List NumberedReply)) (all whole : List NumberedReply) → AreReplies kept all → all ≡ whole → AreReplies kept whole
all_of None all whole h e = tt
all_of (Some replies) all whole h e = h ∙ e

-- ---- what keeps replies

pub keeps_itself : (kept : Option (List NumberedReply)) → KeepsReplies kept kept
keeps_itself None = tt
keeps_itself (Some waiting) = begins_itself waiting

pub keeps_onward : (a b c : Option (List NumberedReply)) → KeepsReplies a b → KeepsReplies b c → KeepsReplies a c
keeps_onward None None None p q = tt
keeps_onward None None (Some c) p q = q
keeps_onward None (Some b) c p q = absurd p
keeps_onward (Some a) None c p q = absurd p
keeps_onward (Some a) (Some b) None p q = q
keeps_onward (Some a) (Some b) (Some c) p q = begins_onward a b c p q

keeps_with : (kept new : Option (List NumberedReply)) (more : List NumberedReply) → new ≡ kept_with kept more → KeepsReplies kept new
keeps_with None new more e = subst (KeepsReplies None) (sym e) tt
keeps_with (Some waiting) new more e = subst (KeepsReplies (Some waiting)) (sym e) (more, refl)

-- a batch was executed, or not
pub run_keeps : {T E : Type 0} (answer : Result T E) (kept new : Option (List NumberedReply)) (more : List NumberedReply) → OnOk answer (new ≡ kept_with kept more) → OnErr answer (new ≡ kept) →
    KeepsReplies kept new
run_keeps (Ok x) kept new more e f = keeps_with kept new more e
run_keeps (Err x) kept new more e f = subst (KeepsReplies kept) (sym f) (keeps_itself kept)

-- ---- replies that are taken

-- the first of those that wait was handed out
pub taken_of : (kept : Option (List NumberedReply)) (passed all : List NumberedReply) (one : Option NumberedReply) → one ≡ first_kept kept → AreReplies (all_replies passed kept) all →
    AreReplies (all_replies (passed ++ option_to_list one) (after_first kept)) all
taken_of None passed all one e h = tt
taken_of (Some []) passed all one e h =
    subst (λ (o : Option NumberedReply). AreReplies (all_replies (passed ++ option_to_list o) (Some [])) all) (sym e)
    (ap (λ (rs : List NumberedReply). rs ++ []) (append-nil passed) ∙ h)
taken_of (Some (reply ∷ replies)) passed all one e h =
    subst (λ (o : Option NumberedReply). AreReplies (all_replies (passed ++ option_to_list o) (Some replies)) all) (sym e)
    (append_assoc passed (reply ∷ []) replies ∙ h)

listed : {A B : Type 0} (f : A → B) (o : Option A) → option_to_list (option_map f o) ≡ map f (option_to_list o)
listed f None = refl
listed f (Some x) = refl

pub replied_taken : (start : Start) (ended : List (List Call)) (passed : List NumberedReply) (old new : Replies) (result : Option Reply) → option_map handed_out result ≡ first_kept (kept_in old) →
    kept_in new ≡ after_first (kept_in old) → HasReplied start ended passed old → HasReplied start ended (passed ++ map handed_out (option_to_list result)) new
replied_taken start ended passed old new result next left h =
    subst (λ (k : Option (List NumberedReply)). AreReplies (all_replies (passed ++ map handed_out (option_to_list result)) k) (replies_after start ended)) (sym left)
    (subst (λ (rs : List NumberedReply). AreReplies (all_replies (passed ++ rs) (after_first (kept_in old))) (replies_after start ended)) (listed handed_out result)
    (taken_of (kept_in old) passed (replies_after start ended) (option_map handed_out result) next h))

-- ---- replies are kept from here on

pub replied_kept : (start : Start) (ended : List (List Call)) (passed : List NumberedReply) (old new : Replies) → (kept_in old ≡ None → kept_in new ≡ Some []) → (IsSome (kept_in old) → new ≡ old) →
    HasReplied start ended passed old → (before : List NumberedReply) × HasReplied start ended before new
replied_kept start ended passed old new first again h = by_case (kept_in old) refl
  where
    by_case : (kept : Option (List NumberedReply)) → kept_in old ≡ kept → (before : List NumberedReply) × HasReplied start ended before new
    by_case None e = (
      replies_after start ended,
      subst (λ (k : Option (List NumberedReply)). AreReplies (all_replies (replies_after start ended) k) (replies_after start ended)) (sym (first e)) (append-nil (replies_after start ended)),
    )
    by_case (Some waiting) e = (
      passed,
      subst (λ (r : Replies). HasReplied start ended passed r) (sym (again (ap (λ (k : Option (List NumberedReply)). is_some k) e))) h,
    )
