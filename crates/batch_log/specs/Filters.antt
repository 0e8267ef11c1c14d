-- Claimed: what contracts promise to a reader rests on these words.
-- The lines of a log that say a call or a cut, copied byte for byte.
use Rattle.std.specs.Prelude.{◌≡◌, ℕ, List, [], ◌∷◌, ◌++◌, Bool, true, false, not, filter, map, if◌then◌else◌, Option, Some, Result, IfOk, IfErr, OnOk, OnErr, IfSome}
use Rattle.std.specs.Result.{is_ok}
use Rattle.std.specs.List.{concat, list_all}
use Rattle.std.specs.Io.KnownBytes.{Appends, Consumes}
use Rattle.devices.specs.Devices.{AppendsFront}
use Rattle.devices.specs.Lines.{has_newline, is_newline, lines_of, onto_first}
use Rattle.proclang_types.specs.Procedures.{ProcParts}
use Rattle.batch_log.specs.declared.fault.LogFault.{LogFault}
use Rattle.batch_log.specs.declared.fault.LogFaultKind.TheVariants.{BatchTooLong}
use Rattle.batch_log.specs.Faults.{IsOfLine}
use Rattle.batch_log.specs.Lines.{line_said}
use Rattle.batch_log.specs.Log.{first_fault, log_said}

-- the text cut after each newline; a rest after the last newline is a line without one, if it isn't empty
abbrev pub whole_lines : List ℕ → List (List ℕ)
whole_lines [] = []
whole_lines (b ∷ rest) = if is_newline b then (b ∷ []) ∷ whole_lines rest else onto_first b (whole_lines rest)

-- a line without its newline
abbrev pub without_newline : List ℕ → List ℕ
without_newline line = filter (λ b. not (is_newline b)) line

-- whether a line, with its newline or without one, says a call or a cut
abbrev pub is_taken : List ProcParts → List ℕ → Bool
is_taken procs line = is_ok (line_said procs (without_newline line))

-- the lines of these that say a call or a cut, one after another
abbrev pub taken_of : List ProcParts → List (List ℕ) → List ℕ
taken_of procs lines = concat (filter (is_taken procs) lines)

-- the lines of a log that say a call or a cut, in their order
abbrev pub filtered : List ProcParts → List ℕ → List ℕ
filtered procs log = taken_of procs (whole_lines log)

-- whether each line of a log says a call or a cut
abbrev pub all_taken : List ProcParts → List ℕ → Bool
all_taken procs log = list_all (is_taken procs) (whole_lines log)

-- ---- what comes of filtering a log

-- These lines of a log were read, each whole, and those of them that say a call or a cut were written. After them the
-- source gave these bytes.
pub record HasFiltered (procs : List ProcParts) (lines : List (List ℕ)) (after : List ℕ)
    (source spent sink filled : Option (List ℕ)) : Type 0 where
  pub first : IfSome source (λ log. (rest : List (List ℕ)) × (whole_lines log ≡ lines ++ rest))
  pub read : Consumes source spent (concat lines ++ after)
  pub written : Appends sink filled (taken_of procs lines)

-- rule: command.filter
-- The log that a source has left was filtered into a sink: the source and the sink before and after, and whether each
-- line says a call or a cut, or a fault.
pub record IsFilterOf (procs : List ProcParts) (source spent sink filled : Option (List ℕ))
    (was_failed is_failed : Bool) (result : Result Bool LogFault) : Type 0 where
  -- Where it ended well, all of the log was read, and its lines that say a call or a cut were written.
  pub all : IfOk result (λ all. IfSome source (λ log. all ≡ all_taken procs log))
  pub read : OnOk result (IfSome source (λ log. spent ≡ Some []))
  pub ok : OnOk result (IfSome source (λ log. Appends sink filled (filtered procs log)))
  -- However it ended, what was written is a beginning of them.
  pub front : IfSome source (λ log. AppendsFront sink filled (filtered procs log))
  -- No line is a fault that ends it.
  pub machine : IfErr result (λ e. IsOfLine e.kind → ⊥)
  -- Each line is written before the next is read: where a read failed, the lines before it were.
  pub stop : was_failed ≡ false → is_failed ≡ true → OnErr result
      ((lines : List (List ℕ)) × (lost : List ℕ) × (has_newline lost ≡ false)
      × HasFiltered procs lines lost source spent sink filled)

-- ---- laws

-- the lines of a text with their newlines are the text, and without them they are its lines
pub record WholeLinesAreTheLines (text : List ℕ) : Type 0 where
  pub all : concat (whole_lines text) ≡ text
  pub lines : map without_newline (whole_lines text) ≡ lines_of text

-- what was filtered has no fault of a line, but that a batch may be too long
abbrev pub FilteredHasNoFault : Type 0
FilteredHasNoFault = (procs : List ProcParts) (retries : ℕ) (log : List ℕ) (fault : LogFault) →
    first_fault (log_said retries procs 0 0 (filtered procs log)) ≡ Some fault → fault.kind ≡ BatchTooLong
