-- Claimed: what contracts promise to a reader rests on these words.
-- What a call takes from a source.
use Rattle.std.specs.Prelude.{List, ℕ, Option}
use Rattle.devices.specs.LineReader.{Position, Takes}

-- some bytes are taken, and the position goes on by them
pub record Moves (old : Option (List ℕ)) (new : Option (List ℕ)) (from : Position) (to : Position) : Type 0 where
  pub bytes : List ℕ
  pub takes : Takes old new from to bytes
