-- Claimed: what contracts promise to a reader rests on these words.
-- A log at work: what was taken of it, executed and reported.
use Rattle.std.specs.Prelude.{◌≡◌, ◌+◌, ◌≤◌, ◌++◌, ℕ, List, [], length, false, Some}
use Rattle.std.specs.List.{AllByRecursion}
use Rattle.values.specs.Database.{Database}
use Rattle.requests.specs.Requests.{Call}
use Rattle.batch_log.specs.declared.fault.LogFault.{LogFault}
use Rattle.batch_log.specs.Feeds.{place_of}
use Rattle.batch_log.specs.Places.{IsAt, IsWhole, Place}
use Rattle.retries.specs.Standings.{after_batches, attempts_at, call_count, closing, closing_within, start_of, Standing}
use Rattle.engine.specs.Engines.{is_busy, tables_of, EngineParts}
use Rattle.running.specs.declared.transcript.Transcript.{Transcript}
use Rattle.running.specs.Batches.{KeepsDigest}
use Rattle.running.specs.Reported as running
use Rattle.running.specs.Reported.{with_closing}
use Rattle.running.specs.Standings.{standing_after, standing_of}
use Rattle.running.specs.Starts.{Start}
use Rattle.session.specs.declared.report.Report.{Report}
use Rattle.session.specs.declared.work.Work.{Work}
use Rattle.session.specs.declared.replies.Replies.{Replies}
use Rattle.session.specs.Ends.{IsRunInto, IsWholeRun}
use Rattle.session.specs.Replies.{all_replies, kept_in, replies_after, AreReplies, NumberedReply}
use Rattle.session.specs.Reports.{waiting_in}

-- a standing is that after batches of all calls of a log that were read, but those that wait
pub record IsAfterCalls (retries : ℕ) (standing : Standing) (place : Place) : Type 0 where
  pub db : Database
  pub ran : List (List Call)
  pub standing_is : standing ≡ after_batches retries (start_of db) ran
  pub counted : call_count ran + length place.calls ≡ place.total

-- No batch is unfinished, and the calls that wait are over the engine's tables. The feed and the engine know of the
-- same number of retries. The engine has run all calls that were read, in whichever batches, but those that wait.
pub record IsReady (work : Work) : Type 0 where
  pub over : AllByRecursion (λ c. c.proc.tables ≡ tables_of work.engine) (place_of work.feed).calls
  pub limit : (place_of work.feed).retries ≡ work.engine.retries
  pub few : work.engine.retries ≤ 2
  pub idle : is_busy work.engine ≡ false
  pub digest_kept : KeepsDigest work.engine work.transcript
  pub log : ∥ IsAfterCalls work.engine.retries (standing_of work.engine) (place_of work.feed) ∥₁

-- These batches, and no others, were executed from a start, one after another. What was drained of their report and
-- what waits are together the texts of them all.
abbrev pub HasReported : Start → List (List Call) → List ℕ → EngineParts → Transcript → Report → Type 0
HasReported start ended drained engine transcript report =
    running.HasReported start ended engine transcript (Some [])
    (Some (drained ++ waiting_in report))

-- The same batches were executed from a start. Where replies are kept, those that no longer wait and those that do are
-- together the replies of them all.
abbrev pub HasReplied : Start → List (List Call) → List NumberedReply → Replies → Type 0
HasReplied start ended passed replies = AreReplies (all_replies passed (kept_in replies)) (replies_after start ended)

-- Of a log from a start these bytes were taken, and each batch that ends in them was executed and reported. So much of
-- the report was drained, and these replies no longer wait.
pub record HasRun (start : Start) (taken drained : List ℕ) (passed : List NumberedReply) (work : Work) : Type 0 where
  pub ended : List (List Call)
  pub limit : (place_of work.feed).retries ≡ start.retries
  pub at : IsAt start.procs (place_of work.feed) ended taken
  pub reported : HasReported start ended drained work.engine work.transcript work.report
  pub replied : HasReplied start ended passed work.replies

-- A whole log without a fault was taken, and each batch of its calls was executed and reported. Those that close it may
-- be due.
pub record HasRead (start : Start) (log drained : List ℕ) (passed : List NumberedReply) (work : Work) : Type 0 where
  pub ended : List (List Call)
  pub whole : IsWhole start.procs start.retries [] ended log
  pub reported : HasReported start ended drained work.engine work.transcript work.report
  pub replied : HasReplied start ended passed work.replies

-- After a whole log, whose own batches are these, the first batches without calls that close it were executed and
-- reported, and at most n of these are left.
pub record HasClosed (start : Start) (drained : List ℕ) (passed : List NumberedReply) (ran : List (List Call))
    (most : ℕ) (work : Work) : Type 0 where
  pub closers : List (List Call)
  pub reported : HasReported start (ran ++ closers) drained work.engine work.transcript work.report
  pub replied : HasReplied start (ran ++ closers) passed work.replies
  pub first : closing start.retries (standing_after start ran)
      ≡ closers ++ closing_within start.retries most (standing_after start (ran ++ closers))

-- A whole log without a fault was taken, and each batch of it was executed and reported, and so were the batches
-- without calls that close it. The end line was not.
pub record HasRunWhole (start : Start) (log drained : List ℕ) (passed : List NumberedReply) (work : Work) : Type 0 where
  pub ended : List (List Call)
  pub whole : IsWhole start.procs start.retries [] ended log
  pub reported : HasReported start (with_closing start ended) drained
      work.engine work.transcript work.report
  pub replied : HasReplied start (with_closing start ended) passed work.replies

-- a log at work goes on by these bytes
abbrev pub Continues : Work → List ℕ → Work → Type 0
Continues old bytes new =
    (start : Start) (fed drained : List ℕ) (passed : List NumberedReply) → HasRun start fed drained passed old →
    HasRun start (fed ++ bytes) drained passed new

-- the number of the transaction that the next call is: those that were run come before it, then what is carried, then
-- the calls that wait
abbrev pub next_number : Work → ℕ
next_number work = work.engine.next + length (attempts_at (standing_of work.engine) (place_of work.feed).calls)

-- this fault ends each log that goes on by these bytes
abbrev pub FaultsAfter : Work → List ℕ → Work → LogFault → Type 0
FaultsAfter old bytes new fault =
    (start : Start) (fed drained more : List ℕ) (passed : List NumberedReply) → HasRun start fed drained passed old →
    IsRunInto start ((fed ++ bytes) ++ more) (drained ++ waiting_in new.report)
    (all_replies passed (kept_in new.replies)) fault

-- this fault ends a log whose end has come
abbrev pub FaultsAtEnd : Work → Work → LogFault → Type 0
FaultsAtEnd old new fault =
    (start : Start) (fed drained : List ℕ) (passed : List NumberedReply) → HasRun start fed drained passed old →
    IsRunInto start fed (drained ++ waiting_in new.report) (all_replies passed (kept_in new.replies)) fault

-- a whole log was taken, and its batches were run
abbrev pub ReadsWhole : Work → Work → Type 0
ReadsWhole old new =
    (start : Start) (fed drained : List ℕ) (passed : List NumberedReply) → HasRun start fed drained passed old →
    HasRead start fed drained passed new

-- after a whole log the batches that close it were run
abbrev pub ClosesWhole : Work → Work → Type 0
ClosesWhole old new =
    (start : Start) (log drained : List ℕ) (passed : List NumberedReply) → HasRead start log drained passed old →
    HasRunWhole start log drained passed new

-- a fault stopped one of the batches that close a whole log
abbrev pub FaultsInClosing : Work → Work → LogFault → Type 0
FaultsInClosing old new fault =
    (start : Start) (log drained : List ℕ) (passed : List NumberedReply) → HasRead start log drained passed old →
    IsRunInto start log (drained ++ waiting_in new.report) (all_replies passed (kept_in new.replies)) fault

-- a whole log was taken, and its batches and those that close it were run
abbrev pub RunsWhole : Work → Work → Type 0
RunsWhole old new =
    (start : Start) (fed drained : List ℕ) (passed : List NumberedReply) → HasRun start fed drained passed old →
    HasRunWhole start fed drained passed new

-- the end line was written, too: the log is run, and this is the number of its transactions
abbrev pub EndsLog : Work → Work → ℕ → Type 0
EndsLog old new count =
    (start : Start) (fed drained : List ℕ) (passed : List NumberedReply) → HasRun start fed drained passed old →
    IsWholeRun start fed (drained ++ waiting_in new.report) (all_replies passed (kept_in new.replies)) new.engine.rows
    count
