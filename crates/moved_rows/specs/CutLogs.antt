-- Claimed: what contracts promise to a reader rests on these words.
-- Beginnings of logs that end with a cut.
use Rattle.std.specs.Prelude.{◌≡◌, List, ℕ, [], ◌∷◌, ◌++◌, false, Ok}
use Rattle.std.specs.List.{AllByRecursion}
use Rattle.devices.specs.Lines.{has_newline, joined}
use Rattle.proclang_types.specs.Procedures.{ProcParts}
use Rattle.batch_log.specs.declared.line.LogLine.TheVariants.{Cut}
use Rattle.batch_log.specs.Lines.{line_said}

-- whole lines, the last of which says a cut
pub record EndsWithCut (procs : List ProcParts) (text : List ℕ) : Type 0 where
  pub lines : List (List ℕ)
  pub last : List ℕ
  pub whole : AllByRecursion (λ line. has_newline line ≡ false) (lines ++ last ∷ [])
  pub is : text ≡ joined (lines ++ last ∷ [])
  pub cut : line_said procs last ≡ Ok Cut
