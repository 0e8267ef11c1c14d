-- Of the code: invariants and steps; no promise rests on these words.
-- One line of a log that is filtered.
use Rattle.std.specs.Prelude.{◌≡◌, ℕ, List, [], ◌∷◌, ◌++◌, Bool, true, false, Option, Err}
use Rattle.std.specs.List.{concat, list_all}
use Rattle.std.specs.Io.KnownBytes.{Appends, Consumes}
use Rattle.devices.specs.Devices.{Passes}
use Rattle.devices.specs.Lines.{has_newline, newline}
use Rattle.proclang_types.specs.Procedures.{ProcParts}
use Rattle.batch_log.specs.declared.filter.LookedAt.{LookedAt}
use Rattle.batch_log.specs.declared.filter.LookedAt.TheVariants.{Taken, Refused}
use Rattle.batch_log.specs.Filters.{is_taken, taken_of, whole_lines, without_newline}
use Rattle.batch_log.specs.Lines.{line_said}

-- what comes after a line, which may have come without its newline
abbrev pub newline_of : Bool → List ℕ
newline_of true = []
newline_of false = newline ∷ []

-- the line is taken, or refused for this fault of it
abbrev pub IsFound : List ProcParts → List ℕ → ℕ → LookedAt → Type 0
IsFound procs line number (Taken bytes) = (line ≡ bytes.items) × (is_taken procs line ≡ true)
IsFound procs line number (Refused fault) =
    (line_said procs (without_newline line) ≡ Err fault.kind) × (fault.line ≡ number) × (is_taken procs line ≡ false)

-- the first line of what is left is read, and found to be this
pub record IsLooked (procs : List ProcParts) (old new : Option (List ℕ)) (number : ℕ) (found : LookedAt) : Type 0 where
  pub line : List ℕ
  pub read : Consumes old new line
  pub first : Passes (λ xs ys. whole_lines xs ≡ line ∷ whole_lines ys) old new
  pub is_found : IsFound procs line number found

-- some bytes of one line are read and lost; not all of it where a read failed
pub record LosesLine (failed : Bool) (old new : Option (List ℕ)) : Type 0 where
  pub lost : List ℕ
  pub read : Consumes old new lost
  pub broken : failed ≡ true → has_newline lost ≡ false

-- these lines were read so far, and those of them that say a call or a cut were written
pub record FilteredSoFar (procs : List ProcParts) (all : Bool) (old new sink filled : Option (List ℕ)) : Type 0 where
  pub lines : List (List ℕ)
  pub first : Passes (λ xs ys. whole_lines xs ≡ lines ++ whole_lines ys) old new
  pub read : Consumes old new (concat lines)
  pub written : Appends sink filled (taken_of procs lines)
  pub all_taken : all ≡ list_all (is_taken procs) lines
