-- Of the code: invariants and steps; no promise rests on these words.
-- Values that are one token each.
use Rattle.std.specs.Prelude.{◌≡◌, ◌≤◌, ℕ, ⊤, List, [], ◌∷◌, ◌++◌, length}
use Rattle.json.specs.Token.{Token}
use Rattle.values.specs.declared.value.Value.{Value}
use Rattle.values.specs.declared.value.Value.TheVariants.{Int, Text}
use Rattle.value_tokens.specs.Documents.{IsInteger}

-- a token says a value by itself: a whole number in the signed 64-bit range an Int, a text of at most 64 bytes a Text
abbrev pub IsValueToken : Token → Value → Type 0
IsValueToken t (Int z) = (s : List ℕ) × (t ≡ Token.number s) × IsInteger s z
IsValueToken t (Text s) = (t ≡ Token.string s) × (length s ≤ 64)

-- each token says the value at its place, and there are equally many
abbrev pub AreValueTokens : List Token → List Value → Type 0
AreValueTokens [] [] = ⊤
AreValueTokens [] (v ∷ vs) = ⊥
AreValueTokens (t ∷ ts) [] = ⊥
AreValueTokens (t ∷ ts) (v ∷ vs) = IsValueToken t v × AreValueTokens ts vs

-- the tokens begin with one for each of these values and with the bracket that closes their array, and the others are
-- the rest
pub record ListsValues (tokens : List Token) (values : List Value) (rest : List Token) : Type 0 where
  pub listed : List Token
  pub are_tokens : tokens ≡ listed ++ Token.end_array ∷ rest
  pub say : AreValueTokens listed values
