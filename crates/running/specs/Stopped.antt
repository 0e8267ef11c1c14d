-- Claimed: what contracts promise to a reader rests on these words.
-- Where in a log a run stopped, and what it had written by then.
use Rattle.std.specs.Prelude.{◌≡◌, ℕ, List, [], ◌∷◌, ◌++◌, length, Bool, true, false, Option, ⊤}
use Rattle.std.specs.Io.KnownBytes.{Appends}
use Rattle.devices.specs.Devices.{AppendsFront}
use Rattle.devices.specs.Lines.{line_number, newlines_in}
use Rattle.requests.specs.Requests.{Call}
use Rattle.batch_log.specs.Lines.{Lines}
use Rattle.batch_log.specs.Log.{batches_of, first_fault, log_said, IsEnd, IsNextBatch}
use Rattle.batch_log.specs.Places.{batches_said}
use Rattle.batch_log.specs.Taken.{TakesCalls}
use Rattle.report_text.specs.Report.{all_transactions, batch_text, batch_texts, end_text, next_batch}
use Rattle.retries.specs.Standings.{closing, call_count, in_turn, start_of, transactions_at}
use Rattle.running.specs.Reports.{log_fault}
use Rattle.running.specs.Standings.{standing_after}
use Rattle.running.specs.declared.run_fault.RunFault.{RunFault}
use Rattle.running.specs.Starts.{Start}
use Rattle.running.specs.Stops.{is_of_device, IfOfThread, last_line, line_of_read}

-- ---- after some batches

-- the texts of batches from a start
abbrev pub texts_of : Start → List (List Call) → List ℕ
texts_of start batches =
    batch_texts start.digest start.procs.tables 1 0 start.rows (in_turn start.retries (start_of start.rows) batches)

-- the text of the next batch after some, of these calls
abbrev pub next_text : Start → List (List Call) → List Call → List ℕ
next_text start batches calls =
    batch_text start.digest start.procs.tables (next_batch (length batches)) (standing_after start batches).next
    (standing_after start batches).rows (transactions_at (standing_after start batches) calls)

-- what the rest of a log says after the bytes and the calls of some batches
abbrev pub said_after : Start → List ℕ → List (List Call) → List ℕ → Lines
said_after start bytes batches rest =
    log_said start.retries start.procs.procs (line_number (newlines_in bytes)) (call_count batches) rest

-- ---- what a run was at

-- A run is reading a batch; or it has read one, of these calls, whose report isn't written whole yet; or it has read
-- the end of the log, and the report of a batch without calls that closes it, or else the end line, isn't written whole
-- yet.
pub data Stage : Type 0 where
  reading : Stage
  in_batch : List Call → Stage
  in_closing : Stage
  at_end : Stage

-- Which fault can end a run at a stage, and whether a read failed there. Reading ends with a failed read, or where
-- allocation fails; a batch, also one that closes the log, with a failed write, or where memory or a thread is
-- refused; the end, with a failed write, or if allocation fails.
abbrev pub IsEndedBy : Stage → Bool → RunFault → Type 0
IsEndedBy reading failed fault = (is_of_device fault ≡ failed) × IfOfThread fault ⊥
IsEndedBy (in_batch calls) failed fault = failed ≡ false
IsEndedBy in_closing failed fault = failed ≡ false
IsEndedBy at_end failed fault = (failed ≡ false) × IfOfThread fault ⊥

-- What is taken of a log after the batches that are reported: where a batch was read, that whole batch and no more,
-- and at the end all.
abbrev pub IsTakenAt : Stage → Start → List (List Call) → List ℕ → List ℕ → List ℕ → Type 0
IsTakenAt reading start reported bytes taken rest = ⊤
IsTakenAt (in_batch calls) start reported bytes taken rest =
    IsNextBatch (said_after start bytes reported (taken ++ rest)) calls
    (said_after start (bytes ++ taken) (reported ++ calls ∷ []) rest)
IsTakenAt in_closing start reported bytes taken rest =
    IsEnd (said_after start bytes reported (taken ++ rest)) × (rest ≡ [])
IsTakenAt at_end start reported bytes taken rest =
    IsEnd (said_after start bytes reported (taken ++ rest)) × (rest ≡ [])

-- The batches without calls that are reported after those of a log: none before its end is read; while one of them
-- runs, those before it; and before the end line all that close the log.
abbrev pub HaveClosed : Stage → Start → List (List Call) → List (List Call) → Type 0
HaveClosed reading start reported closers = closers ≡ []
HaveClosed (in_batch calls) start reported closers = closers ≡ []
HaveClosed in_closing start reported closers =
    (later : List (List Call)) × (closing start.retries (standing_after start reported) ≡ closers ++ [] ∷ later)
HaveClosed at_end start reported closers = closing start.retries (standing_after start reported) ≡ closers

-- what a stage writes after the reports of some batches: the text of its batch, or the end line
abbrev pub text_at : Stage → Start → List (List Call) → List ℕ
text_at reading start reported = []
text_at (in_batch calls) start reported = next_text start reported calls
text_at in_closing start reported = next_text start reported []
text_at at_end start reported =
    end_text false start.digest start.procs.tables start.rows
    (all_transactions (in_turn start.retries (start_of start.rows) reported))

-- the text is written, and then a beginning of the next one
abbrev pub AppendsAndFront : Option (List ℕ) → Option (List ℕ) → List ℕ → List ℕ → Type 0
AppendsAndFront old new text next =
    (between : Option (List ℕ)) × Appends old between text × AppendsFront between new next

-- the line of a fault after the bytes that were taken, by whether a read failed
abbrev pub line_after : Bool → List ℕ → ℕ
line_after true taken = line_of_read taken
line_after false taken = last_line taken

-- ---- where a run stopped

-- A run stopped at this stage, and names this line. The report of some batches was written whole. After their bytes
-- nothing was taken but of the next batch, and after their text nothing was written but a beginning of what the stage
-- writes.
pub record IsStoppedAt (stage : Stage) (start : Start) (failed : Bool) (log : List ℕ)
    (sink filled : Option (List ℕ)) (line : ℕ) : Type 0 where
  -- the log's batches that are reported, and those without calls after them; the bytes of the log's, the bytes taken
  -- after them, and the rest of the log
  pub reported : List (List Call)
  pub closers : List (List Call)
  pub bytes : List ℕ
  pub taken : List ℕ
  pub rest : List ℕ
  pub whole : log ≡ bytes ++ (taken ++ rest)
  pub batches : batches_said start.procs start.retries log
      ≡ reported ++ batches_of (said_after start bytes reported (taken ++ rest))
  pub fault : log_fault start log ≡ first_fault (said_after start bytes reported (taken ++ rest))
  -- After them whole lines of calls were taken, and then one more line, or a beginning of it.
  pub calls : TakesCalls start.retries start.procs.procs (call_count reported) failed (taken ++ rest) rest
  pub at : IsTakenAt stage start reported bytes taken rest
  pub closed : HaveClosed stage start reported closers
  pub written : AppendsAndFront sink filled (texts_of start (reported ++ closers))
      (text_at stage start (reported ++ closers))
  pub line_is : line ≡ line_after failed (bytes ++ taken)

-- a run stopped with this fault at this line, at a stage that such a fault can end
abbrev pub IsStop : Start → Bool → RunFault → List ℕ → Option (List ℕ) → Option (List ℕ) → ℕ → Type 0
IsStop start failed fault log sink filled line =
    (stage : Stage) × IsEndedBy stage failed fault × IsStoppedAt stage start failed log sink filled line
