-- Claimed: what contracts promise to a reader rests on these words.
-- Rights by rank: none 0, Read 1, Write 2. So the greater of two rights is the greater number.
use Rattle.std.specs.Prelude.{ℕ, Bool, ◌&&◌, ◌||◌, ◌==◌, nat_lt, Option, Some, None}
use Rattle.proclang_types.specs.declared.right.Right.{Right}
use Rattle.proclang_types.specs.declared.right.Right.TheVariants.{Read, Write}

-- the rank of a right, where none has rank 0
abbrev pub rank_of : Right → ℕ
rank_of Read = 1
rank_of Write = 2

-- of a right that may be none
abbrev pub rank : Option Right → ℕ
rank None = 0
rank (Some right) = rank_of right

-- two rights clash if both are not none and one of them is Write
abbrev pub rights_clash : ℕ → ℕ → Bool
rights_clash x y = nat_lt 0 x && (nat_lt 0 y && ((x == 2) || (y == 2)))
