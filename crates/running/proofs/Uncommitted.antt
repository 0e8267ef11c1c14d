-- A batch without a commit leaves the rows as they were.
use Rattle.std.proofs.Common.{◌≡◌, ◌||◌, Bool, true, false, List, [], ◌∷◌, map, refl, sym, ap, ◌∙◌, Result, Ok, Err}
use Rattle.values.specs.Database.{Database}
use Rattle.requests.specs.ProcLists.{ProcsParts}
use Rattle.meaning.specs.declared.outcome.Ending.{Ending}
use Rattle.meaning.specs.declared.outcome.Outcome.{Outcome}
use Rattle.meaning.specs.declared.outcome.Outcome.TheVariants as outcomes
use Rattle.meaning.specs.Entries as meant
use Rattle.meaning.specs.Entries.{commit, aborted, stale, declares, faults, finds, finished, meaning, meaning_by, nothing, EntryShape, Footing}
use Rattle.meaning.specs.Outcomes.{as_reply, is_commit}
use Rattle.meaning.specs.Runs.{State}
use Rattle.meaning.specs.Serial.{serial_end, serial_replies}
use Rattle.sequencer.specs.Attempts.{Attempt}
use Rattle.engine.specs.declared.replies.BatchDone.{BatchDone}
use Rattle.engine.specs.declared.replies.Reply.{Reply}
use Rattle.engine.specs.Engines.{EngineParts, tables_of}
use Rattle.engine.specs.Executions.{IsExecutionOf, KeepsSetting}
use Rattle.engine.specs.Replies.{reply_of}
use Rattle.running.specs.declared.transcript.Transcript.{Transcript}
use Rattle.running.specs.Batches.{KeepsDigest}
use Rattle.running.specs.Transcripts.{has_commit}

-- whether an outcome is a commit, by the reply that it stands for
abbrev says_commit : meant.Reply → Bool
says_commit (commit values) = true
says_commit (aborted code) = false
says_commit stale = false

said_commit : (outcome : Outcome) → is_commit outcome ≡ says_commit (as_reply outcome)
said_commit (outcomes.Commit values) = refl
said_commit (outcomes.Abort code) = refl
said_commit outcomes.Stale = refl

finished_leaves : (db : Database) (run : Result (Unit {0}) Ending × State) → says_commit (finished db run).0 ≡ false → (finished db run).1 ≡ db
finished_leaves db (Ok u, st) e = absurd (cc)
finished_leaves db (Err x, st) e = refl

meaning_leaves : (entry : EntryShape) (footing : Footing) (db : Database) → says_commit (meaning_by nothing entry.tables entry.body entry.arguments footing db).0 ≡ false →
    (meaning_by nothing entry.tables entry.body entry.arguments footing db).1 ≡ db
meaning_leaves entry (declares footprint) db e = finished_leaves db _ e
meaning_leaves entry (faults code) db e = refl
meaning_leaves entry (finds footprint) db e = finished_leaves db _ e

neither : (a b : Bool) → (a || b) ≡ false → (a ≡ false) × (b ≡ false)
neither true b e = absurd (cc)
neither false b e = (refl, e)

-- entries none of which commits leave the rows
pub serial_leaves : (replies : List Reply) (entries : List EntryShape) (db : Database) → map reply_of replies ≡ serial_replies entries db → has_commit replies ≡ false → serial_end entries db ≡ db
serial_leaves [] [] db e f = refl
serial_leaves [] (x ∷ xs) db e f = absurd cc
serial_leaves (r ∷ rs) [] db e f = absurd cc
serial_leaves (r ∷ rs) (x ∷ xs) db e f =
    let both = neither (is_commit r.outcome) (has_commit rs) f in
    let head : reply_of r ≡ (meaning x db).0 = cc in
    let rest : map reply_of rs ≡ serial_replies xs (meaning x db).1 = cc in
    let none : says_commit (meaning x db).0 ≡ false = sym (ap says_commit head) ∙ sym (said_commit r.outcome) ∙ both.0 in
    serial_leaves rs xs (meaning x db).1 rest both.1 ∙ meaning_leaves x x.footing db none

-- the digest that was kept before a batch without a commit is that of the rows after it
pub keeps_digest_after : (old new : EngineParts) (transcript : Transcript) (attempts : List Attempt) (run : BatchDone) (replies : List Reply) →
    IsExecutionOf old new attempts run → KeepsSetting old new → KeepsDigest old transcript → replies ≡ run.replies.items →
    has_commit replies ≡ false → KeepsDigest new transcript
keeps_digest_after old new transcript attempts run replies r same kept f none =
    let rows : new.rows ≡ old.rows = r.rows ∙ serial_leaves replies _ old.rows (ap (map reply_of) f ∙ r.replies) none in
    let tables : tables_of new ≡ tables_of old = ap (λ (p : ProcsParts). p.tables) same.procs in
    rw (tables, rows) kept
