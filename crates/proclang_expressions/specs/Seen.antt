-- Claimed: what contracts promise to a reader rests on these words.
-- The variables that are seen at a place of a procedure.
use Rattle.std.specs.Prelude.{ℕ, List, [], ◌∷◌, ◌++◌, map, Option, option_map, option_and_then, position, slice_get, string_bytes}
use Rattle.std.specs.Str.{bytes_eq}
use Rattle.values.specs.declared.value.ColType.{ColType}
use Rattle.values.specs.declared.value.ColType.TheVariants as types
use Rattle.proclang_types.specs.Syntax.{ParamShape}
use Rattle.proclang_expressions.specs.declared.scope.Declaration.{Declaration}
use Rattle.proclang_expressions.specs.declared.scope.Declaration.TheVariants.{Parameter, Loop}
use Rattle.proclang_expressions.specs.declared.scope.Variable.{Variable}
use Rattle.proclang_expressions.specs.declared.scope.Found.{Found}

-- a variable that is seen: its name, its type, and what declared it
pub record Seen : Type 0 where
  pub name : List ℕ
  pub kind : ColType
  pub declaration : Declaration

-- a variable without where it lies in memory
abbrev pub seen : Variable → Seen
seen v = record { name = string_bytes v.name; kind = v.kind; declaration = v.declaration }

-- a parameter, as it is seen
abbrev pub param_seen : ParamShape → Seen
param_seen p = record { name = p.name; kind = p.kind; declaration = Parameter }

-- parameters, which are seen in the whole footprint and the whole body
abbrev pub seen_of : List ParamShape → List Seen
seen_of params = map param_seen params

-- the types of the variables that are seen
abbrev pub seen_kinds : List Seen → List ColType
seen_kinds scope = map (λ v. v.kind) scope

-- the place of the variable of that name
abbrev pub place_in : List ℕ → List Seen → Option ℕ
place_in name scope = position (λ v. bytes_eq name v.name) scope

abbrev pub found_at : ℕ → Seen → Found
found_at place v = record { place = place; kind = v.kind; declaration = v.declaration }

-- the variable of that name, with its place
abbrev pub found_in : List ℕ → List Seen → Option Found
found_in name scope =
    option_and_then (λ place. option_map (found_at place) (slice_get scope place)) (place_in name scope)

-- the variables that are seen in the block of a loop: its own, an Int, comes after those that are seen before it
abbrev pub seen_in_loop : List Seen → List ℕ → List Seen
seen_in_loop scope name = scope ++ record { name = name; kind = types.Int; declaration = Loop } ∷ []
