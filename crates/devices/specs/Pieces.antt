-- Of the code: invariants and steps; no promise rests on these words.
-- What a reader of lines takes at once of the bytes that came.
use Rattle.std.specs.Prelude.{◌≡◌, ℕ, ◌<◌, List, [], ◌∷◌, ◌++◌, length, Result, Ok, Err, Bool, true, false}
use Rattle.devices.specs.Lines.{has_newline, newline}

-- how a piece of a line ends: with the line's newline, or where the bytes that came do
abbrev pub piece_end : Bool → List ℕ
piece_end true = newline ∷ []
piece_end false = []

-- a piece without a newline is taken, with its end, and goes after a line
pub record TakesPiece (ends : Bool) (old new line grown : List ℕ) : Type 0 where
  pub piece : List ℕ
  pub whole : has_newline piece ≡ false
  pub taken : old ≡ (piece ++ piece_end ends) ++ new
  pub after : grown ≡ line ++ piece
  pub all : ends ≡ false → (has_newline old ≡ false) × (0 < length piece)

-- a piece without a newline is taken, and is lost
pub record LosesPiece (old new : List ℕ) : Type 0 where
  pub piece : List ℕ
  pub whole : has_newline piece ≡ false
  pub taken : old ≡ piece ++ new
  pub some : 0 < length piece

-- the answer is that the line ends
abbrev pub says_end : {E : Type 0} → Result Bool E → Bool
says_end (Ok ends) = ends
says_end (Err e) = false
