-- Claimed: what contracts promise to a reader rests on these words.
-- Values as C sees them.
use Rattle.std.specs.Prelude.{◌≡◌, ◌==◌, ℕ, List, length, map, min, take, if◌then◌else◌}
use Rattle.values.specs.declared.value.Value.{Value}
use Rattle.values.specs.declared.value.Value.TheVariants.{Int, Text}
use Rattle.calvin_c.specs.declared.cells.ValueCell.{ValueCell}

-- the value that C is given: a number, or the text of the first bytes
abbrev pub value_in : ValueCell → Value
value_in cell = if cell.kind == 0 then Int cell.number else Text (take cell.length cell.text)

-- a value as it fits, a text up to its 64th byte
abbrev pub fitting : Value → Value
fitting (Int number) = Int number
fitting (Text bytes) = Text (take 64 bytes)

-- C is given this many of these values: as many as there are, or as there are cells
abbrev pub AreValues : ℕ → List ValueCell → List Value → Type 0
AreValues count cells values =
    (count ≡ min (length values) (length cells)) × (map value_in (take count cells) ≡ map fitting (take count values))
