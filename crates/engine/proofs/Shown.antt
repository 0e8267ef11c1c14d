-- What the watchers of an engine are told is what is settled.
use Rattle.std.proofs.Common.{◌≡◌, ℕ, suc, ◌+◌, List, [], ◌∷◌, length, map, Bool, Option, None, Some, Result, Ok, Err, IfOk, is_ok, refl, sym, ap, ◌∙◌, arith}
use Rattle.std.proofs.lemmas.List.{length-map}
use Rattle.meaning.specs.Entries.{Reply}
use Rattle.progress.specs.declared.tally.Tally.{Tally}
use Rattle.progress.specs.Tallies.{latest}
use Rattle.values.specs.Database.{Database}
use Rattle.engine.specs.declared.replies.BatchDone.{BatchDone}
use Rattle.sequencer.specs.Attempts.{Attempt}
use Rattle.engine.specs.declared.fault.ExecFault.{ExecFault}
use Rattle.progress.specs.Accounts.{Account}
use Rattle.engine.specs.Engines.{EngineParts, Unfinished}
use Rattle.engine.specs.Executions.{IsExecutionOf, ResumesTo}
use Rattle.engine.specs.Replies.{reply_of, sent_of, sent_from}
use Rattle.dispatcher.specs.Tallies.{tally_of, together}
use Rattle.dispatcher.specs.Listeners.{HearsOn}
use Rattle.engine.specs.Stages.{published_until}
use Rattle.dispatcher.specs.Listeners.{CountsReplies}
use Rattle.engine.specs.Accounts.{settled_of}
use Rattle.engine.specs.Stages.{HasHeard, IsShown, IsToldSettled, KnowsEnd, account_in}
use Rattle.dispatcher.proofs.Counting.{together_none}

module _ (next : ℕ) (done : BatchDone) (old now : Account) (told : old.ended.settled ≡ next)
    (onward : HearsOn (Some old) (Some now)) (knows : KnowsEnd done (Some now)) where
  abbrev replies : List Reply
  replies = map reply_of done.replies.items

  -- the tally of the batches that ended, with this one
  pub counted_end : latest now.published ≡ together old.ended (tally_of replies)
  counted_end = knows ∙ ap (λ (t : Tally). together t (tally_of replies)) onward.0

  pub shown_end : (rows : Database)
      → IsShown (next + length done.replies.items) None rows (record now { ended = latest now.published })
  shown_end rows =
      let all : (latest now.published).settled ≡ old.ended.settled + length replies = ap (λ (t : Tally). t.settled) counted_end in
      let many : length replies ≡ length done.replies.items = length-map done.replies.items reply_of in
      record {
        ended = omega (arith, all, many, told);
        shows = sym (together_none (latest now.published));
      }

-- what the watchers are told
pub told_shows : (engine : EngineParts) (account : Option Account) → IsToldSettled engine account
    → CountsReplies (account_in account) (settled_of engine.unfinished engine.rows)
told_shows engine None told = absurd told
told_shows engine (Some account) told = told.shows

-- ---- after a call

sent_many : (n : ℕ) (attempts : List Attempt) → length (sent_from n attempts) ≡ length attempts
sent_many n [] = refl
sent_many n (a ∷ attempts) = ap suc (sent_many (n + 1) attempts)

-- a batch has as many replies as attempts
pub replies_many : (old new : EngineParts) (attempts : List Attempt) (run : BatchDone) → IsExecutionOf old new attempts run → new.next ≡ old.next + length run.replies.items
replies_many old new attempts run h =
    let many : length run.replies.items ≡ length attempts = sym (length-map run.replies.items sent_of) ∙ ap length h.sent ∙ sent_many old.next attempts in
    h.next ∙ ap (λ n. old.next + n) (sym many)

-- what watchers are told after a call that ran a batch to its end or did not
pub told_after : (old new : EngineParts) (unfinished : Option Unfinished) (result : Result BatchDone ExecFault) (before now after : Account) (flag : Bool) → flag ≡ is_ok result
    → after ≡ published_until flag now → before.ended.settled ≡ old.next → IfOk result (ResumesTo old new unfinished) → HasHeard new result (Some now) → HearsOn (Some before) (Some now)
    → IsShown new.next new.unfinished new.rows after
told_after old new None (Ok run) before now after flag f a told done heard onward = absurd done
told_after old new (Some unfinished) (Ok run) before now after flag f a told done heard onward =
    let counted : IsShown (old.next + length run.replies.items) None new.rows (record now { ended = latest now.published }) = shown_end old.next run before now told onward heard new.rows in
    let all : after ≡ record now { ended = latest now.published } = a ∙ ap (λ b. published_until b now) f in
    rw (all, replies_many old new unfinished.attempts run done, done.idle) counted
told_after old new unfinished (Err fault) before now after flag f a told done heard onward =
    let all : after ≡ now = a ∙ ap (λ b. published_until b now) f in rw all heard
