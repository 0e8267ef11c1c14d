-- Claimed: what contracts promise to a reader rests on these words.
-- What an engine's published tallies say.
use Rattle.std.specs.Prelude.{◌≡◌, List, [], map, Option, Some, None, Result, Ok, Err, IfOk, IfErr}
use Rattle.values.specs.Database.{Database}
use Rattle.meaning.specs.Entries.{Reply}
use Rattle.meaning.specs.Serial.{serial_replies}
use Rattle.progress.specs.Accounts.{Account}
use Rattle.dispatcher.specs.Tallies.{settled_among, tally_of, together}
use Rattle.dispatcher.specs.Listeners.{CountsReplies, PublishesOn}
use Rattle.engine.specs.Batches.{entries_of}
use Rattle.engine.specs.declared.fault.ExecFault.{ExecFault}
use Rattle.engine.specs.declared.fault.ExecFault.TheVariants.{Busy, LogFull, Spawn, NoMemory}
use Rattle.engine.specs.declared.replies.BatchDone.{BatchDone}
use Rattle.engine.specs.Engines.{PublishingParts, Unfinished}
use Rattle.engine.specs.Executions.{IsInterruption, KeepsSetting, ResumesTo}
use Rattle.engine.specs.Replies.{reply_of}

-- the replies of those transactions of an unfinished batch that are settled: what its entries one by one on the rows
-- before it reply at their places
abbrev pub settled_of : Option Unfinished → Database → List Reply
settled_of None rows = []
settled_of (Some unfinished) rows =
    settled_among unfinished.phases (serial_replies (entries_of rows unfinished.attempts) rows)

-- the last published tally counts the transactions that are settled, over all batches: those of the batches that ended,
-- and those of the unfinished batch
abbrev pub ShowsSettled : PublishingParts → Type 0
ShowsSettled engine = CountsReplies engine.account (settled_of engine.core.unfinished engine.core.rows)

-- what is counted among the batches that ended: the replies of a batch, where a call ran it to its end, and else no
-- more; and where a batch came back nothing was published
abbrev pub CountsEnded : Account → Account → Result BatchDone ExecFault → Type 0
CountsEnded old new (Ok run) = new.ended ≡ together old.ended (tally_of (map reply_of run.replies.items))
CountsEnded old new (Err (Busy back)) = new ≡ old
CountsEnded old new (Err (LogFull back)) = new ≡ old
CountsEnded old new (Err Spawn) = new.ended ≡ old.ended
CountsEnded old new (Err NoMemory) = new.ended ≡ old.ended

-- What a call that executes a batch publishes. However it ends, the last published tally counts what is settled, and
-- one was published for each transaction that the call settled.
pub record Publishes (old new : PublishingParts) (result : Result BatchDone ExecFault) : Type 0 where
  pub shown : ShowsSettled new
  pub onward : PublishesOn old.account new.account
  pub counted : CountsEnded old.account new.account result

-- what resuming an engine with an unfinished batch comes to
pub record IsResumption (old : PublishingParts) (result : Result BatchDone ExecFault) (new : PublishingParts)
    : Type 0 where
  pub same : KeepsSetting old.core new.core
  pub done : IfOk result (ResumesTo old.core new.core old.core.unfinished)
  pub refused : IfErr result (IsInterruption old.core old.core.unfinished new.core)
  pub published : Publishes old new result
