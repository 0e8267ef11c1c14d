-- Claimed: what contracts promise to a reader rests on these words.
-- One batch of a log, run and reported.
use Rattle.std.specs.Prelude.{◌≡◌, ℕ, ◌+◌, ◌≤◌, ◌^◌, ◌++◌, List, length, false, Option, Some, IfSome}
use Rattle.std.specs.List.{AllByRecursion}
use Rattle.std.specs.Io.KnownBytes.{Appends}
use Rattle.sha2.specs.Hashers.{Holds256}
use Rattle.requests.specs.Requests.{Call}
use Rattle.report_text.specs.Report.{batch_text, next_batch, reply_lines}
use Rattle.retries.specs.Standings.{attempts_at, after_batch, replies_at, transactions_at}
use Rattle.engine.specs.declared.replies.Reply.{Reply}
use Rattle.engine.specs.Engines.{EngineParts, is_busy, tables_of}
use Rattle.running.specs.declared.transcript.Transcript.{Transcript}
use Rattle.running.specs.Hashers.{batch_of, form_of, rows_digest_of, said_of}
use Rattle.running.specs.Standings.{standing_of}
use Rattle.running.specs.Transcripts.{digest_of_rows, said_lines, with_batch_line}

-- the text of a batch of these calls, the next one after what was reported
abbrev pub due_text : EngineParts → Transcript → List Call → List ℕ
due_text engine transcript calls =
    batch_text (form_of transcript) (tables_of engine) (batch_of transcript) engine.next engine.rows
    (transactions_at (standing_of engine) calls)

-- The digest that the transcript keeps, if it keeps one, is that of the engine's rows.
abbrev pub KeepsDigest : EngineParts → Transcript → Type 0
KeepsDigest engine transcript =
    IfSome (rows_digest_of transcript) (λ text. text ≡ digest_of_rows (form_of transcript) engine)

-- reply lines were reported, and the batch line after them
pub record HasAdded (old new : Transcript) (lines : List ℕ) : Type 0 where
  pub batch : batch_of new ≡ next_batch (batch_of old)
  pub said : (m : List ℕ) → Holds256 (said_of old) m → Holds256 (said_of new) (m ++ lines)

-- the report of a batch of these replies was written, over the rows that the engine has, whose digest is kept
pub record IsWritten (engine : EngineParts) (replies : List Reply) (before after : Transcript)
    (sink filled : Option (List ℕ)) : Type 0 where
  pub added : HasAdded before after (said_lines replies)
  pub text : Appends sink filled
      (with_batch_line (form_of before) (batch_of before) (tables_of engine) engine.rows (said_lines replies))
  pub rows : rows_digest_of after ≡ Some (digest_of_rows (form_of before) engine)

-- An idle engine can run these calls as its next batch: they are over its tables, no more than a batch may have, and
-- with what is carried to them they have numbers. The digest that the transcript keeps, if it keeps one, is that of the
-- engine's rows.
pub record IsDue (engine : EngineParts) (transcript : Transcript) (calls : List Call) : Type 0 where
  pub over : AllByRecursion (λ call. call.proc.tables ≡ tables_of engine) calls
  pub few : length calls ≤ 4096
  pub idle : is_busy engine ≡ false
  pub room : engine.next + length (attempts_at (standing_of engine) calls) ≤ 2 ^ 48
  pub digest_kept : KeepsDigest engine transcript

-- these calls were run as the next batch, and reported
pub record IsReported (old new : EngineParts) (before after : Transcript) (sink filled : Option (List ℕ))
    (calls : List Call)
    : Type 0 where
  pub idle : is_busy new ≡ false
  pub standing : standing_of new ≡ after_batch old.retries (standing_of old) calls
  pub batch : batch_of after ≡ next_batch (batch_of before)
  pub said : (m : List ℕ) → Holds256 (said_of before) m →
      Holds256 (said_of after)
      (m ++ reply_lines old.next (transactions_at (standing_of old) calls) (replies_at (standing_of old) calls))
  pub text : Appends sink filled (due_text old before calls)
  pub digest_kept : KeepsDigest new after
