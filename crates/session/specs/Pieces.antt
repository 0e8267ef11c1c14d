-- Claimed: what contracts promise to a reader rests on these words.
-- Bytes that are taken in pieces.
use Rattle.std.specs.Prelude.{◌≡◌, ◌++◌, ◌≤◌, ℕ, List, drop, length, min, take}
use Rattle.session.specs.declared.pieces.Pieces.{Pieces}

-- the bytes that were not yet taken
abbrev pub untaken : Pieces → List ℕ
untaken pieces = drop pieces.taken pieces.bytes.items

-- Of bytes that wait, as many as there are or as have room in a buffer were moved to its front, and the others are
-- left. What comes after them in the buffer is as it was.
pub record IsDrained (waiting left before after : List ℕ) (count : ℕ) : Type 0 where
  pub as_many : count ≡ min (length waiting) (length before)
  pub bound : count ≤ length after
  pub room : length after ≡ length before
  pub moved : waiting ≡ take count after ++ left
  pub rest : drop count after ≡ drop count before
