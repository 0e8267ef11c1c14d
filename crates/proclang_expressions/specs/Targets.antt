-- Claimed: what contracts promise to a reader rests on these words.
-- Variables that get a value, and the variables of loops.
use Rattle.std.specs.Prelude.{ℕ, Bool, true, false, not, List, [], ◌∷◌, ◌++◌, length, Option, Some, None, Result, Ok, ⊤, if◌then◌else◌}
use Rattle.documents.specs.Reading.{◌>>=◌, rule}
use Rattle.values.specs.declared.value.ColType.{ColType}
use Rattle.proclang_expressions.specs.declared.fault.FaultKind.TheVariants.{TypeMismatch, DuplicateName}
use Rattle.proclang_expressions.specs.declared.fault.ProcFault.{ProcFault}
use Rattle.proclang_expressions.specs.declared.fault.ProcFault.TheVariants.{At}
use Rattle.proclang_expressions.specs.declared.scope.Declaration.{Declaration}
use Rattle.proclang_expressions.specs.declared.scope.Declaration.TheVariants.{Parameter, Statement, Loop}
use Rattle.proclang_expressions.specs.declared.scope.Found.{Found}
use Rattle.proclang_expressions.specs.Faults.{refuse}
use Rattle.proclang_expressions.specs.Seen.{Seen, found_in}
use Rattle.proclang_expressions.specs.Lookups.{same_type, declared_at}

-- rule: variable.fixed
-- no statement changes a parameter or the variable of a loop
abbrev pub is_fixed : Declaration → Bool
is_fixed Parameter = true
is_fixed Loop = true
is_fixed Statement = false

-- a variable that is to get a value: a new one, whose name obeys the rule, or one that is seen and may be changed
abbrev pub target_of : List ℕ → List ℕ → Option Found → Result (Option Found) ProcFault
target_of path name None = declared_at path name >>= λ _. Ok None
target_of path name (Some v) = rule (not (is_fixed v.declaration)) (At DuplicateName path) >>= λ _. Ok (Some v)

-- what a `let` or a `get` changes, or nothing where it declares; or the fault
abbrev pub target_at : List ℕ → List Seen → List ℕ → Result (Option Found) ProcFault
target_at path scope name = target_of path name (found_in name scope)

-- the place of the variable that gets a value of that type, and the variables that are seen then: a new one comes after
-- the others
abbrev pub bound : List ℕ → List Seen → List ℕ → ColType → Option Found → Result (ℕ × List Seen) ProcFault
bound path scope name kind None =
    Ok (length scope, scope ++ record { name = name; kind = kind; declaration = Statement } ∷ [])
bound path scope name kind (Some v) = if same_type v.kind kind then Ok (v.place, scope) else refuse TypeMismatch path

-- the variable of a loop: a new one, whose name obeys the rule
abbrev pub loop_name_of : List ℕ → List ℕ → Option Found → Result ⊤ ProcFault
loop_name_of path name None = declared_at path name
loop_name_of path name (Some v) = refuse DuplicateName path

-- rule: variable.loop
-- a name that a loop may take, or the fault
abbrev pub loop_name_at : List ℕ → List Seen → List ℕ → Result ⊤ ProcFault
loop_name_at path scope name = loop_name_of path name (found_in name scope)
