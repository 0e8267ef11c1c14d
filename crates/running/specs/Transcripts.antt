-- Claimed: what contracts promise to a reader rests on these words.
-- What is written of a batch, and how a write ends.
use Rattle.std.specs.Prelude.{ℕ, List, [], ◌∷◌, ◌++◌, Bool, false, Result, Ok, Err, ⊤}
use Rattle.std.specs.List.{list_any}
use Rattle.catalogue.specs.Shapes.{TableShape}
use Rattle.values.specs.Database.{Database}
use Rattle.meaning.specs.Outcomes.{is_commit}
use Rattle.batch_log.specs.declared.fault.LogFaultKind.{LogFaultKind}
use Rattle.batch_log.specs.declared.fault.LogFaultKind.TheVariants.{Io, Memory}
use Rattle.batch_log.specs.Faults.{is_io}
use Rattle.row_text.specs.declared.form.DigestForm.{DigestForm}
use Rattle.row_text.specs.Partitions.{digested_text}
use Rattle.row_text.specs.Texts.{digest}
use Rattle.report_text.specs.Texts.{reply_line, batch_line}
use Rattle.engine.specs.declared.replies.Reply.{Reply}
use Rattle.engine.specs.Engines.{tables_of, EngineParts}
use Rattle.engine.specs.Replies.{reply_of}

-- the reply lines of replies
abbrev pub said_lines : List Reply → List ℕ
said_lines [] = []
said_lines (reply ∷ replies) = reply_line reply.no reply.of (reply_of reply) ++ said_lines replies

-- reply lines, and the batch line with the digests of the rows, in this form, and of these lines
unfoldable pub with_batch_line : DigestForm → ℕ → List TableShape → Database → List ℕ → List ℕ
with_batch_line form batch tables db lines =
    lines ++ batch_line batch (digest (digested_text form tables db)) (digest lines)

-- the digest of an engine's rows, in this form
abbrev pub digest_of_rows : DigestForm → EngineParts → List ℕ
digest_of_rows form engine = digest (digested_text form (tables_of engine) engine.rows)

-- whether one of these replies is a commit
abbrev pub has_commit : List Reply → Bool
has_commit replies = list_any (λ reply. is_commit reply.outcome) replies

-- whether a write failed
abbrev pub write_failed : {T : Type 0} → Result T LogFaultKind → Bool
write_failed (Ok x) = false
write_failed (Err kind) = is_io kind

-- a device or memory failed, and no line of the log is at fault
abbrev pub IsOfMachine : LogFaultKind → Type 0
IsOfMachine Io = ⊤
IsOfMachine Memory = ⊤
IsOfMachine kind = ⊥
