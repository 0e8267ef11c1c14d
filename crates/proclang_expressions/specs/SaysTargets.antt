-- Claimed: what contracts promise to a reader rests on these words.
-- Which variable gets a value, and which is the variable of a loop: a relation apart from paths, faults and the order
-- in which a document is read.
use Rattle.std.specs.Prelude.{◌≡◌, ◌⊎◌, ℕ, List, [], ◌∷◌, ◌++◌, length, Some, None, true}
use Rattle.values.specs.declared.value.ColType.{ColType}
use Rattle.values.specs.Names.{is_name}
use Rattle.proclang_expressions.specs.declared.scope.Declaration.TheVariants.{Statement}
use Rattle.proclang_expressions.specs.Seen.{Seen, found_in}

-- A name gets a value of a type. If no variable of that name is seen, it declares one after the others; else a
-- statement has declared the variable, which is no parameter and no variable of a loop, and it has that type.
pub record Declares (scope : List Seen) (name : List ℕ) (kind : ColType) (place : ℕ) (after : List Seen) : Type 0 where
  pub new : found_in name scope ≡ None
  pub named : is_name name ≡ true
  pub next : place ≡ length scope
  pub seen : after ≡ scope ++ record { name = name; kind = kind; declaration = Statement } ∷ []

-- rule: variable.changed
-- a variable that a statement declared is changed
pub record Changes (scope : List Seen) (name : List ℕ) (kind : ColType) (place : ℕ) (after : List Seen) : Type 0 where
  pub found : found_in name scope ≡ Some (record { place = place; kind = kind; declaration = Statement })
  pub same : after ≡ scope

-- a variable is declared or changed
abbrev pub Gets : List Seen → List ℕ → ColType → ℕ → List Seen → Type 0
Gets scope name kind place after = Declares scope name kind place after ⊎ Changes scope name kind place after

-- a new name, which obeys the rule
pub record IsNew (scope : List Seen) (name : List ℕ) : Type 0 where
  pub new : found_in name scope ≡ None
  pub named : is_name name ≡ true
