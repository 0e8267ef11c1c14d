-- Claimed: what contracts promise to a reader rests on these words.
-- What a clause sees of a reader of a log.
use Rattle.std.specs.Prelude.{◌≡◌, ℕ, List, [], Bool, false, Option, None}
use Rattle.devices.specs.LineReader as lines
use Rattle.devices.specs.LineReader.{Origin, Position}
use Rattle.batch_log.specs.declared.fault.LogFault.{LogFault}
use Rattle.devices.specs.declared.line_reader.LineReader.{LineReader}
use Rattle.batch_log.specs.declared.reader.LogReader.{LogReader}

-- the reader of the log's lines
abbrev pub lines_of : {S : Type 0} → LogReader S → LineReader S
lines_of r = r.lines

-- the source as it is now
abbrev pub source_of : {S : Type 0} → LogReader S → S
source_of r = lines.source_of r.lines

-- what the reader reads: the source, by the ghost name of the reference to it, and whether that is a feed
abbrev pub origin_of : {S : Type 0} → LogReader S → Origin
origin_of r = lines.origin_of r.lines

-- whether nothing more had come when a feed was read
abbrev pub has_ended : {S : Type 0} → LogReader S → Bool
has_ended r = lines.has_ended r.lines

-- what the source has left for the reader: of a feed, the bytes that are there and at least one more
abbrev pub left_in : {S : Type 0} → (S → Option (List ℕ)) → LogReader S → Option (List ℕ)
left_in left r = lines.left_in left r.lines

-- whether a read has failed: of a feed, also where nothing more had come
abbrev pub failed_in : {S : Type 0} → (S → Bool) → LogReader S → Bool
failed_in failed r = lines.failed_in failed r.lines

-- the bytes that came from the source and were not taken
abbrev pub came : {S : Type 0} → LogReader S → List ℕ
came r = lines.came r.lines

-- the bytes that were not taken: those that came, and those that the source has left
abbrev pub unread : {S : Type 0} → (S → Option (List ℕ)) → LogReader S → Option (List ℕ)
unread left r = lines.unread left r.lines

-- how many newlines were taken, and the number of the line last begun, or 0
abbrev pub position_of : {S : Type 0} → LogReader S → Position
position_of r = lines.position_of r.lines

-- how many newlines were taken; the number stops rising at 2^64 - 1
abbrev pub newlines_taken : {S : Type 0} → LogReader S → ℕ
newlines_taken r = lines.newlines_taken r.lines

-- the number of the line of which a byte was last taken, or 0
abbrev pub line_begun : {S : Type 0} → LogReader S → ℕ
line_begun r = lines.line_begun r.lines

-- how many calls were read
abbrev pub calls_read : {S : Type 0} → LogReader S → ℕ
calls_read r = r.total

-- the fault that the reader ended with
abbrev pub fault_of : {S : Type 0} → LogReader S → Option LogFault
fault_of r = r.fault

-- how often a stale request is tried again, for the sake of which a log has fewer calls
abbrev pub retries_of : {S : Type 0} → LogReader S → ℕ
retries_of r = r.retries

-- a reader that has read nothing of a log whose stale requests are tried again so often
pub record IsUnread {S : Type 0} (retries : ℕ) (reader : LogReader S) : Type 0 where
  pub nothing_came : came reader ≡ []
  pub position : position_of reader ≡ record { newlines = 0; begun = 0 }
  pub calls : calls_read reader ≡ 0
  pub fault : fault_of reader ≡ None
  pub retries_are : retries_of reader ≡ retries
  pub goes_on : has_ended reader ≡ false
