-- Claimed: what contracts promise to a reader rests on these words.
-- The value that a JSON document says.
use Rattle.std.specs.Prelude.{ℕ, nat_le, List, [], ◌∷◌, ◌++◌, length, Option, Some, None, option_map, option_and_then, if◌then◌else◌}
use Rattle.serde_json.specs.Data.{Data, null, boolean, number, string, array, object}
use Rattle.serde_json.specs.Find.{as_i64}
use Rattle.values.specs.declared.value.Value.{Value}
use Rattle.values.specs.declared.value.Value.TheVariants.{Int, Text}

-- a text of at most 64 bytes
abbrev pub text_said : List ℕ → Option Value
text_said s = if nat_le (length s) 64 then Some (Text s) else None

-- a number in the signed 64-bit range says an Int, a text of at most 64 bytes a Text, and any other document no value
abbrev pub value_said : Data → Option Value
value_said (number n) = option_map Int (as_i64 n)
value_said (string s) = text_said s
value_said null = None
value_said (boolean b) = None
value_said (array ds) = None
value_said (object ms) = None

-- the values that documents say, after those before them, where each says one
abbrev pub values_after : List Value → List Data → Option (List Value)
values_after before [] = Some before
values_after before (d ∷ ds) = option_and_then (λ v. values_after (before ++ v ∷ []) ds) (value_said d)

-- the values that documents say, where each says one
abbrev pub values_said : List Data → Option (List Value)
values_said ds = values_after [] ds
