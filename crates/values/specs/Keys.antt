-- Claimed: what contracts promise to a reader rests on these words.
-- Keys.
use Rattle.std.specs.Prelude.{ℕ, ℤ, pos, negsuc, Option, Some, None}

-- a number that is not negative is a key
abbrev pub key_of : ℤ → Option ℕ
key_of (pos n) = Some n
key_of (negsuc n) = None
