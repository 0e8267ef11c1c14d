-- Claimed: what contracts promise to a reader rests on these words.
-- The compatibility of modes, cell by cell.
use Rattle.std.specs.Prelude.{◌≡◌, Bool, true, false, List, [], ◌∷◌, map}
use Rattle.modes.specs.declared.mode.Mode.{Mode}
use Rattle.modes.specs.declared.mode.Mode.TheVariants.{IntentionShared, IntentionExclusive, Shared, SharedIntentionExclusive, Exclusive}
use Rattle.modes.specs.Modes.{are_compatible}

-- the columns of the table: IS, IX, S, SIX, X
abbrev pub columns : List Mode
columns = IntentionShared ∷ IntentionExclusive ∷ Shared ∷ SharedIntentionExclusive ∷ Exclusive ∷ []

-- with which modes a mode is compatible, column by column
abbrev pub row_of : Mode → List Bool
row_of mode = map (are_compatible mode) columns

-- The table of Gray, Lorie, Putzolu and Traiger (1976), a row for each mode: in each cell whether the modes of its row
-- and its column can be granted to two transactions at the same time.
pub record GraysTable : Type 0 where
  pub intention_shared : row_of IntentionShared ≡ true ∷ true ∷ true ∷ true ∷ false ∷ []
  pub intention_exclusive : row_of IntentionExclusive ≡ true ∷ true ∷ false ∷ false ∷ false ∷ []
  pub shared : row_of Shared ≡ true ∷ false ∷ true ∷ false ∷ false ∷ []
  pub shared_intention_exclusive : row_of SharedIntentionExclusive ≡ true ∷ false ∷ false ∷ false ∷ false ∷ []
  pub exclusive : row_of Exclusive ≡ false ∷ false ∷ false ∷ false ∷ false ∷ []
