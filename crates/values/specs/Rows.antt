-- Claimed: what contracts promise to a reader rests on these words.
-- Rows, and the types of their values.
use Rattle.std.specs.Prelude.{Bool, true, false, ◌&&◌, List, [], ◌∷◌}
use Rattle.values.specs.declared.value.ColType.{ColType}
use Rattle.values.specs.declared.value.ColType.TheVariants as types
use Rattle.values.specs.declared.value.Value.{Value}
use Rattle.values.specs.declared.value.Value.TheVariants as values

-- a value's type
abbrev pub type_of : Value → ColType
type_of (values.Int n) = types.Int
type_of (values.Text s) = types.Text

-- two types are one
abbrev pub is_kind : ColType → ColType → Bool
is_kind types.Int types.Int = true
is_kind types.Int types.Text = false
is_kind types.Text types.Int = false
is_kind types.Text types.Text = true

-- whether there is one value for each type, and it is of that type
abbrev pub kinds_match : List ColType → List Value → Bool
kinds_match [] [] = true
kinds_match [] (v ∷ vs) = false
kinds_match (k ∷ ks) [] = false
kinds_match (k ∷ ks) (v ∷ vs) = is_kind k (type_of v) && kinds_match ks vs
