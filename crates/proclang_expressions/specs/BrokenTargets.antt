-- Claimed: what contracts promise to a reader rests on these words.
-- The rules of variables that get a value, and of the variables of loops. No rule here depends on what reading gives.
use Rattle.std.specs.Prelude.{ℕ, Bool, true, not, List, [], ◌∷◌, ◌++◌, Option, Some, None, option_map}
use Rattle.documents.specs.FirstFault.{broken}
use Rattle.values.specs.declared.value.ColType.{ColType}
use Rattle.values.specs.Names.{is_name}
use Rattle.proclang_expressions.specs.declared.fault.FaultKind.TheVariants.{Shape, DuplicateName}
use Rattle.proclang_expressions.specs.declared.fault.ProcFault.{ProcFault}
use Rattle.proclang_expressions.specs.declared.fault.ProcFault.TheVariants.{At}
use Rattle.proclang_expressions.specs.declared.scope.Declaration.TheVariants.{Statement}
use Rattle.proclang_expressions.specs.declared.scope.Found.{Found}
use Rattle.proclang_expressions.specs.Lookups.{same_type}
use Rattle.proclang_expressions.specs.Seen.{Seen}
use Rattle.proclang_expressions.specs.Targets.{is_fixed}

-- a variable that gets a value: the name of a new one obeys the rule, and one that is seen may be changed
abbrev pub in_target : List ℕ → List ℕ → Option Found → List ProcFault
in_target path name None = broken (is_name name) (At Shape path)
in_target path name (Some v) = broken (not (is_fixed v.declaration)) (At DuplicateName path)

-- the variable of a loop: its name obeys the rule, and no variable that is seen has it
abbrev pub in_loop_name : List ℕ → List ℕ → Option Found → List ProcFault
in_loop_name path name None = broken (is_name name) (At Shape path)
in_loop_name path name (Some v) = At DuplicateName path ∷ []

-- the type of a variable that is seen
abbrev pub type_found : Option Found → Option ColType
type_found variable = option_map (λ v. v.kind) variable

-- two types are the same, where both are known
abbrev pub agree : Option ColType → Option ColType → Bool
agree None b = true
agree (Some a) None = true
agree (Some a) (Some b) = same_type a b

-- a variable that isn't seen comes after the others from there on, with the type of its value
abbrev pub seen_with : List Seen → List ℕ → Option Found → Option ColType → List Seen
seen_with scope name (Some v) kind = scope
seen_with scope name None None = scope
seen_with scope name None (Some kind) = scope ++ record { name = name; kind = kind; declaration = Statement } ∷ []
