-- Claimed: what contracts promise to a reader rests on these words.
-- Tokens that begin with a document, by the grammar of JSON (RFC 8259), and what this document says.
use Rattle.std.specs.Prelude.{◌≡◌, ℕ, suc, ℤ, List, [], ◌∷◌, Some, option_and_then}
use Rattle.json.specs.Token.{Token}
use Rattle.json.specs.Json as json
use Rattle.serde_json.specs.Data.{Data, array}
use Rattle.serde_json.specs.Find.{as_i64}
use Rattle.serde_json.specs.Read.{converted, number_of, of_json}
use Rattle.serde_json.specs.View.{items_of}
use Rattle.values.specs.declared.value.Value.{Value}
use Rattle.catalogue.specs.Said.{values_said}

-- the tokens begin with a document, in which arrays and objects nest no deeper than this number, and the others are the
-- rest
abbrev pub IsDocument : ℕ → List Token → Data → List Token → Type 0
IsDocument depth tokens document rest = converted of_json (json.value depth tokens) ≡ Some (document, rest)

-- the tokens begin with these documents, one after another, each nested no deeper than this number, and the others are
-- the rest
abbrev pub AreDocuments : ℕ → List Token → List Data → List Token → Type 0
AreDocuments depth tokens [] rest = tokens ≡ rest
AreDocuments depth tokens (document ∷ documents) rest =
    (after : List Token) × IsDocument depth tokens document after × AreDocuments depth after documents rest

-- the text of a number writes this whole number, which is in the signed 64-bit range
abbrev pub IsInteger : List ℕ → ℤ → Type 0
IsInteger text n = option_and_then as_i64 (number_of text) ≡ Some n

-- the first token is the text of this whole number, and the others are the rest
abbrev pub WritesInteger : List Token → ℤ → List Token → Type 0
WritesInteger tokens n rest = (text : List ℕ) × (tokens ≡ Token.number text ∷ rest) × IsInteger text n

-- The tokens begin with an array of documents that say these values, and the others are the rest. Any depth of at least
-- 1 is enough for it.
pub record IsValueArray (tokens : List Token) (values : List Value) (rest : List Token) : Type 0 where
  pub documents : List Data
  pub read : (depth : ℕ) → IsDocument (suc depth) tokens (array (items_of documents)) rest
  pub say : values_said documents ≡ Some values
