-- Claimed: what contracts promise to a reader rests on these words.
-- The places on the way to a value, from the document inwards.
use Rattle.std.specs.Prelude.{ℕ, List, [], ◌∷◌, ◌++◌}
use Rattle.proclang_expressions.specs.declared.path.Path.{Path}
use Rattle.proclang_expressions.specs.declared.path.Path.TheVariants.{Document, Element'}

-- the places on the way to a part, from the document inwards
abbrev pub places : Path → List ℕ
places Document = []
places (Element' r parent place) = places parent ++ place ∷ []
