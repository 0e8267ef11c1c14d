-- Claimed: what contracts promise to a reader rests on these words.
-- Which bytes a call takes from a source that tells its bytes.
use Rattle.std.specs.Prelude.{◌≡◌, ℕ, ◌+◌, ◌<◌, ◌≤◌, ◌⊎◌, List, [], ◌∷◌, ◌++◌, length, Bool, true, false, Ok}
use Rattle.std.specs.List.{AllByRecursion}
use Rattle.devices.specs.Lines.{has_newline, joined, lines_of, newline}
use Rattle.proclang_types.specs.Procedures.{ProcParts}
use Rattle.requests.specs.Requests as requests
use Rattle.batch_log.specs.declared.line.LogLine.TheVariants.{Call}
use Rattle.batch_log.specs.Lines.{line_said}
use Rattle.batch_log.specs.Log.{most_calls}

-- the text begins with the line and its newline, or is the line, and the rest comes after it
abbrev pub IsFirstLine : List ℕ → List ℕ → List ℕ → Type 0
IsFirstLine line text rest =
    (has_newline line ≡ false) × ((text ≡ line ++ newline ∷ rest) ⊎ ((0 < length line) × (text ≡ line) × (rest ≡ [])))

-- the text begins with all or a beginning of one line; with a beginning of it where a read failed
abbrev pub LosesFirst : Bool → List ℕ → List ℕ → Type 0
LosesFirst failed text rest =
    (lost : List ℕ) × (text ≡ lost ++ rest) × (length (lines_of lost) ≤ 1) × (failed ≡ true → has_newline lost ≡ false)

-- a line without its newline that says a call
abbrev pub SaysCall : List ProcParts → List ℕ → Type 0
SaysCall procs line = (has_newline line ≡ false) × (call : requests.Call) × (line_said procs line ≡ Ok (Call call))

-- Of a log that has `total` calls before this place, whole lines are taken, each a call for which there is room. Then
-- of one more line all is taken, or a beginning, or nothing; not all of it, and so no fault of it, where a read failed.
pub record TakesCalls (retries : ℕ) (procs : List ProcParts) (total : ℕ) (failed : Bool) (text rest : List ℕ) : Type
    0 where
  pub lines : List (List ℕ)
  pub last : List ℕ
  pub taken : text ≡ joined lines ++ (last ++ rest)
  pub calls : AllByRecursion (SaysCall procs) lines
  pub few : length lines ≤ 4096
  pub room : total + length lines ≤ most_calls retries
  pub one : length (lines_of last) ≤ 1
  pub broken : failed ≡ true → has_newline last ≡ false
