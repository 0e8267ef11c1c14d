-- Claimed: what contracts promise to a reader rests on these words.
-- What a write that may stop leaves.
use Rattle.std.specs.Prelude.{◌≡◌, List, ◌++◌}

-- a list begins with these items
abbrev pub IsBeginning : {T : Type 0} → List T → List T → Type 0
IsBeginning {T} items whole = (rest : List T) × (whole ≡ items ++ rest)
