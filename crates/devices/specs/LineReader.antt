-- Claimed: what contracts promise to a reader rests on these words.
-- What a clause sees of a reader of lines.
use Rattle.std.specs.Prelude.{◌≡◌, ℕ, ◌+◌, ◌<◌, ◌⊎◌, List, [], ◌∷◌, ◌++◌, length, slice_range, Option, Some, None, Result, Ok, Err, Bool, true, false, ◌||◌, IfErr, IfSome}
use Rattle.std.specs.Borrow.{GName}
use Rattle.std.specs.Io.KnownBytes.{append_known, prepend_known, Consumes, IsAtEnd}
use Rattle.devices.specs.Lines.{has_newline, line_number, lines_of, newline, newlines_in}
use Rattle.devices.specs.declared.line_reader.LineReadFault.{LineReadFault}
use Rattle.devices.specs.declared.line_reader.LineReadFault.TheVariants.{Io, Memory}
use Rattle.devices.specs.declared.line_reader.LineReader.{LineReader}

-- the source as it is now
abbrev pub source_of : {S : Type 0} → LineReader S → S
source_of r = r.source.now

-- what a reader reads: the source, by the ghost name of the reference to it, and whether that is a feed, of which more
-- is to come at any time
pub record Origin : Type 0 where
  pub name : GName
  pub is_feed : Bool

abbrev pub origin_of : {S : Type 0} → LineReader S → Origin
origin_of r = record { name = r.source.ghost_name; is_feed = r.is_feed }

-- whether nothing more had come when a feed was read
abbrev pub has_ended : {S : Type 0} → LineReader S → Bool
has_ended r = r.has_ended

-- what is to come of a feed: the bytes that are there, and at least one more, which ends a line that is begun
abbrev pub awaited : Option (List ℕ) → Option (List ℕ)
awaited left = append_known left (newline ∷ [])

-- what a source has left for a reader, by whether it is a feed
abbrev pub left_for : Bool → Option (List ℕ) → Option (List ℕ)
left_for false left = left
left_for true left = awaited left

abbrev pub left_in : {S : Type 0} → (S → Option (List ℕ)) → LineReader S → Option (List ℕ)
left_in left r = left_for r.is_feed (left r.source.now)

-- whether a read has failed: of a feed, also where nothing more had come
abbrev pub failed_in : {S : Type 0} → (S → Bool) → LineReader S → Bool
failed_in failed r = r.has_ended || failed r.source.now

-- the bytes that came from the source and were not taken
abbrev pub came : {S : Type 0} → LineReader S → List ℕ
came r = slice_range r.buffer r.start r.end

-- the bytes that were not taken: those that came, and those that the source has left
abbrev pub unread : {S : Type 0} → (S → Option (List ℕ)) → LineReader S → Option (List ℕ)
unread left r = prepend_known (came r) (left_in left r)

-- how many newlines were taken; the number stops rising at 2^64 - 1
abbrev pub newlines_taken : {S : Type 0} → LineReader S → ℕ
newlines_taken r = r.newlines

-- the number of the line of which a byte was last taken, or 0
abbrev pub line_begun : {S : Type 0} → LineReader S → ℕ
line_begun r = r.begun

-- the fault that the reader ended with
abbrev pub fault_of : {S : Type 0} → LineReader S → Option LineReadFault
fault_of r = r.fault

-- whether the line that was read last came without a newline
abbrev pub ends_bare : {S : Type 0} → LineReader S → Bool
ends_bare r = r.bare

-- where a reader is in the lines of a text
pub record Position : Type 0 where
  -- how many newlines were taken
  pub newlines : ℕ
  -- the number of the line of which a byte was last taken, or 0
  pub begun : ℕ

-- how many newlines were taken, and the number of the line that was last begun
abbrev pub position_of : {S : Type 0} → LineReader S → Position
position_of r = record { newlines = r.newlines; begun = r.begun }

-- the position after these bytes, from one where a line begins
abbrev pub position_after : Position → List ℕ → Position
position_after p [] = p
position_after p (b ∷ rest) = record {
  newlines = line_number (p.newlines + newlines_in (b ∷ rest));
  begun = line_number (p.newlines + length (lines_of (b ∷ rest)));
}

-- known bytes begin with these and lose them, and the position goes on by them
abbrev pub Takes : Option (List ℕ) → Option (List ℕ) → Position → Position → List ℕ → Type 0
Takes old new from to taken = Consumes old new taken × (to ≡ position_after from taken)

-- rule: log.lines
-- what is taken for a line: the line and its newline, or the last line, which isn't empty and is bare: it has none
abbrev pub TakesLine : Option (List ℕ) → Option (List ℕ) → Position → Position → Bool → List ℕ → Type 0
TakesLine old new from to bare line = (has_newline line ≡ false) ×
    (((bare ≡ false) × Takes old new from to (line ++ newline ∷ []))
    ⊎ ((bare ≡ true) × (0 < length line) × Takes old new from to line × IsAtEnd new))

-- a beginning of a line is taken, and is lost
abbrev pub LosesLine : Option (List ℕ) → Option (List ℕ) → Position → Position → Type 0
LosesLine old new from to = (lost : List ℕ) × (has_newline lost ≡ false) × Takes old new from to lost

-- the line of a fault: where a read failed the one after the newlines taken, and else the one last begun, or 0
abbrev pub IsFaultAt : LineReadFault → Position → Type 0
IsFaultAt (Io line) p = line ≡ line_number (p.newlines + 1)
IsFaultAt (Memory line) p = line ≡ p.begun

-- a read failed
abbrev pub is_io : {T : Type 0} → Result T LineReadFault → Bool
is_io (Ok value) = false
is_io (Err (Io line)) = true
is_io (Err (Memory line)) = false

-- the fault that a call ended with
abbrev pub fault_in : {T : Type 0} → Result T LineReadFault → Option LineReadFault
fault_in (Ok value) = None
fault_in (Err fault) = Some fault

-- What a feed's end is: a read failed, and all that had come is read.
abbrev pub IsFeedEnd : Bool → Option (List ℕ) → Type 0
IsFeedEnd io left = (io ≡ true) × IfSome left (λ bytes. bytes ≡ [])

-- What a call to a reader without a fault tells of one: it names the line at which the reader is; where a read failed,
-- every byte that came was taken; a read has failed meanwhile only where the call says so; and a feed ends by a failed
-- read alone, once all that had come is read.
pub record TellsFault {S T : Type 0} (left : S → Option (List ℕ)) (failed : S → Bool) (old new : LineReader S)
    (result : Result T LineReadFault) : Type 0 where
  pub place : IfErr result (λ fault. IsFaultAt fault (position_of new))
  pub spent : is_io result ≡ true → came new ≡ []
  pub fails : failed_in failed new ≡ (failed_in failed old || is_io result)
  pub end : has_ended old ≡ false → has_ended new ≡ true → IsFeedEnd (is_io result) (left (source_of new))
