-- Claimed: what contracts promise to a reader rests on these words.
-- Calls of procedures.
use Rattle.std.specs.Prelude.{◌≡◌, ◌≤◌, List, length, map, Bool, true, false, nat_le, ⊤}
use Rattle.std.specs.List.{AllByRecursion}
use Rattle.values.specs.declared.value.ColType.{ColType}
use Rattle.values.specs.declared.value.ColType.TheVariants as types
use Rattle.values.specs.declared.value.Value.{Value}
use Rattle.values.specs.declared.value.Value.TheVariants as values
use Rattle.values.specs.Rows.{type_of}
use Rattle.proclang_types.specs.Syntax.{ParamShape}
use Rattle.proclang_types.specs.Typing.{kinds_of}
use Rattle.proclang_types.specs.Procedures.{ProcParts}

-- whether a parameter of that type takes the value
abbrev pub fits : ColType → Value → Bool
fits types.Int (values.Int z) = true
fits types.Text (values.Text s) = nat_le (length s) 64
fits kind value = false

-- a text is of at most 64 bytes
abbrev pub IsShort : Value → Type 0
IsShort (values.Int z) = ⊤
IsShort (values.Text s) = length s ≤ 64

-- rule: log.values
-- one value a parameter, of the parameter's type
pub record AreArgs (params : List ParamShape) (args : List Value) : Type 0 where
  pub kinds : map type_of args ≡ kinds_of params
  pub short : AllByRecursion IsShort args

-- a procedure, and the values that it is called with
pub record Call : Type 0 where
  pub proc : ProcParts
  pub args : List Value
