-- Claimed: what contracts promise to a reader rests on these words.
-- What a clause sees of a transcript.
use Rattle.std.specs.Prelude.{ℕ, List, Option, option_map, string_bytes}
use Rattle.sha2.specs.declared.Sha256.{Sha256}
use Rattle.row_text.specs.declared.form.DigestForm.{DigestForm}
use Rattle.running.specs.declared.transcript.Transcript.{Transcript}

-- the number of the next batch
abbrev pub batch_of : Transcript → ℕ
batch_of t = t.batch

-- all reply lines, by their hasher
abbrev pub said_of : Transcript → Sha256
said_of t = t.said

-- the digest of the rows after the last batch that was reported
abbrev pub rows_digest_of : Transcript → Option (List ℕ)
rows_digest_of t = option_map string_bytes t.rows

-- of which text of the rows its digests are
abbrev pub form_of : Transcript → DigestForm
form_of t = t.form
