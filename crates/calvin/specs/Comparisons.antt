-- Claimed: what contracts promise to a reader rests on these words.
-- Comparing two reports.
use Rattle.std.specs.Prelude.{◌≡◌, ℕ, ◌≤◌, List, Bool, length, take, slice_get, Option, Some, None}
use Rattle.calvin.specs.declared.comparison.KeptReport.{KeptReport}

-- what was written
abbrev pub bytes_of : KeptReport → List ℕ
bytes_of kept = kept.bytes.items

-- allocation failed for it
abbrev pub is_full : KeptReport → Bool
is_full kept = kept.is_full

-- rule: command.replicas
-- the first place, from 0, where two texts differ or one has ended; none where they are the same
abbrev pub IsFirstDifference : Option ℕ → List ℕ → List ℕ → Type 0
IsFirstDifference None text other = text ≡ other
IsFirstDifference (Some place) text other =
    (take place text ≡ take place other) × (place ≤ length text) × (place ≤ length other)
    × (slice_get text place ≡ slice_get other place → ⊥)
