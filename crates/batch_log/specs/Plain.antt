-- Of the code: invariants and steps; no promise rests on these words.
-- Lines in the plain form, by their tokens.
use Rattle.std.specs.Prelude.{◌≡◌, List, [], ◌∷◌, codes}
use Rattle.json.specs.Token.{Token}
use Rattle.batch_log.specs.declared.plain_line.PlainLine.{PlainLine}
use Rattle.batch_log.specs.declared.plain_line.PlainLine.TheVariants.{Call, Cut}
use Rattle.value_tokens.specs.Documents.{IsValueArray}

-- the tokens are those of `["call", PROC, [VALUE ..]]` with these values, or of `["cut"]`
abbrev pub SpellsPlain : List Token → PlainLine → Type 0
SpellsPlain ts (Call name values) = (rest : List Token)
    × (ts ≡ Token.begin_array ∷ Token.string (codes "call") ∷ Token.string name.now ∷ rest)
    × IsValueArray rest values.items (Token.end_array ∷ [])
SpellsPlain ts Cut = ts ≡ Token.begin_array ∷ Token.string (codes "cut") ∷ Token.end_array ∷ []
