-- Claimed: what contracts promise to a reader rests on these words.
-- What calls do to a device whose bytes may be unknown.
use Rattle.std.specs.Prelude.{◌≡◌, ℕ, ◌&&◌, ◌==◌, List, ◌++◌, length, Bool, true, not, Option, None, Some, ⊤, Result, Ok, Err}
use Rattle.std.specs.Io.KnownBytes.{Appends}

-- a write took none of a piece that isn't empty, or was an error
abbrev pub refuses : {E : Type 0} → Result ℕ E → List ℕ → Bool
refuses (Ok n) piece = (n == 0) && not (length piece == 0)
refuses (Err e) piece = true

-- known bytes grow by a beginning of the text
abbrev pub AppendsFront : Option (List ℕ) → Option (List ℕ) → List ℕ → Type 0
AppendsFront old new text = (front : List ℕ) × (rest : List ℕ) × (text ≡ front ++ rest) × Appends old new front

-- known bytes stay known, and P holds of them before and after
unfoldable pub Passes : (List ℕ → List ℕ → Type 0) → Option (List ℕ) → Option (List ℕ) → Type 0
Passes P None new = ⊤
Passes P (Some xs) None = ⊥
Passes P (Some xs) (Some ys) = P xs ys
