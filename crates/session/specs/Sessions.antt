-- Claimed: what contracts promise to a reader rests on these words.
-- What a clause sees of a session.
use Rattle.std.specs.Prelude.{◌≡◌, ℕ, List, length, ◌++◌, Option, Some, None, Result, Ok, Err}
use Rattle.catalogue.specs.Shapes.{TableShape}
use Rattle.values.specs.Database.{Database}
use Rattle.batch_log.specs.declared.fault.LogFault.{LogFault}
use Rattle.row_text.specs.declared.form.DigestForm.{DigestForm}
use Rattle.engine.specs.Engines as engines
use Rattle.engine.specs.Executions.{KeepsSetting}
use Rattle.running.specs.Hashers as reports
use Rattle.running.specs.Starts.{Start}
use Rattle.session.specs.declared.session.Session.{Session}
use Rattle.session.specs.declared.session.SessionFault.{SessionFault}
use Rattle.session.specs.declared.session.SessionFault.TheVariants.{Over, Log}
use Rattle.session.specs.Ends.{IsRunInto, IsWholeRun}
use Rattle.session.specs.Replies.{all_replies, kept_in, NumberedReply}
use Rattle.session.specs.Reports.{waiting_in}
use Rattle.session.specs.Works.{HasRun}
use Rattle.session.specs.Writes.{IsBeginning}

-- the report bytes that wait to be drained
abbrev pub waiting_of : Session → List ℕ
waiting_of session = waiting_in session.work.report

-- the replies that wait to be handed out, where replies are kept
abbrev pub kept_of : Session → Option (List NumberedReply)
kept_of session = kept_in session.work.replies

-- the rows that the batches which were executed have left
abbrev pub rows_of : Session → Database
rows_of session = session.work.engine.rows

-- how many requests are carried to the next batch
abbrev pub carried_of : Session → ℕ
carried_of session = length session.work.engine.carried

-- the tables of the setup
abbrev pub tables_of : Session → List TableShape
tables_of session = engines.tables_of session.work.engine

-- of which text of the rows digests are
abbrev pub form_of : Session → DigestForm
form_of session = reports.form_of session.work.transcript

-- its procedures and their tables, its settings and its retries stay, and so does the form of digests
abbrev pub KeepsSetup : Session → Session → Type 0
KeepsSetup old new = KeepsSetting old.work.engine new.work.engine × (form_of new ≡ form_of old)

-- the rows, their tables, and of which text of them digests are: what calls about the rows tell of
pub record Stock : Type 0 where
  pub tables : List TableShape
  pub rows : Database
  pub form : DigestForm

abbrev pub stock_of : Session → Stock
stock_of session = record { tables = tables_of session; rows = rows_of session; form = form_of session }

-- why nothing more is taken of the log
abbrev pub stop_of : Session → Option SessionFault
stop_of session = session.stop

-- the fault that a call ended with
abbrev pub stop_in : {T : Type 0} → Result T SessionFault → Option SessionFault
stop_in (Ok value) = None
stop_in (Err fault) = Some fault

-- why nothing more is taken after the end of a log: it is over, or it has this fault
abbrev pub stop_at_end : {T : Type 0} → Result T SessionFault → Option SessionFault
stop_at_end (Ok value) = Some Over
stop_at_end (Err fault) = Some fault

-- the log has a fault of which this holds; it is not over
abbrev pub IsOfLog : (LogFault → Type 0) → SessionFault → Type 0
IsOfLog P Over = ⊥
IsOfLog P (Log fault) = P fault

-- Of a log from a start these bytes were fed to the session, which takes more of it. Each batch that ends in them was
-- executed, and what was drained of the report and what waits are together the texts of all of these. Where replies are
-- kept, those that no longer wait, because they were handed out or came before replies were kept, and those that wait
-- are together the replies of all of these batches.
pub record HasTaken (start : Start) (fed drained : List ℕ) (passed : List NumberedReply) (session : Session)
    : Type 0 where
  pub goes_on : stop_of session ≡ None
  pub run : HasRun start fed drained passed session.work

-- a session goes on by these bytes
abbrev pub TakesOn : Session → List ℕ → Session → Type 0
TakesOn old bytes new =
    (start : Start) (fed drained : List ℕ) (passed : List NumberedReply) → HasTaken start fed drained passed old →
    HasTaken start (fed ++ bytes) drained passed new

-- this fault is that of each log that begins with what was fed and these bytes
abbrev pub FaultsOn : Session → List ℕ → Session → SessionFault → Type 0
FaultsOn old bytes new fault =
    (start : Start) (fed drained more : List ℕ) (passed : List NumberedReply) → HasTaken start fed drained passed old →
    IsOfLog (IsRunInto start ((fed ++ bytes) ++ more) (drained ++ waiting_of new) (all_replies passed (kept_of new)))
    fault

-- What was fed is a whole log, of `count` transactions. What was drained and what waits are together its report, the
-- replies that were passed and those that wait are together its replies, and the rows are those that it leaves.
abbrev pub EndsWhole : Session → Session → ℕ → Type 0
EndsWhole old new count =
    (start : Start) (fed drained : List ℕ) (passed : List NumberedReply) → HasTaken start fed drained passed old →
    IsWholeRun start fed (drained ++ waiting_of new) (all_replies passed (kept_of new)) (rows_of new) count

-- this fault is that of the log that was fed
abbrev pub EndsInFault : Session → Session → SessionFault → Type 0
EndsInFault old new fault =
    (start : Start) (fed drained : List ℕ) (passed : List NumberedReply) → HasTaken start fed drained passed old →
    IsOfLog (IsRunInto start fed (drained ++ waiting_of new) (all_replies passed (kept_of new))) fault

-- report bytes that waited wait still
abbrev pub KeepsWaiting : Session → Session → Type 0
KeepsWaiting old new = IsBeginning (waiting_of old) (waiting_of new)

-- the same of a session to which a log was fed
abbrev pub KeepsWaitingAtEnd : Session → Session → Type 0
KeepsWaitingAtEnd old new =
    (start : Start) (fed drained : List ℕ) (passed : List NumberedReply) → HasTaken start fed drained passed old →
    KeepsWaiting old new
