-- Claimed: what contracts promise to a reader rests on these words.
-- The faults of a document, in the order in which its rules are looked at, and the first of them.
use Rattle.std.specs.Prelude.{◌≡◌, List, [], ◌∷◌, ◌++◌, Option, Some, None, Result, Ok, Err, Bool, true, false}
use Rattle.std.specs.Option.{option_to_list}
use Rattle.serde_json.specs.Data.{Data}

-- the fault of a rule that is broken
abbrev pub broken : {F : Type 0} → Bool → F → List F
broken true fault = []
broken false fault = fault ∷ []

-- those of each document in turn, after the names that the ones before it give
abbrev pub in_each : {N F : Type 0} → (Data → Option N) → (List N → Data → List F) → List N → List Data → List F
in_each named one names [] = []
in_each named one names (d ∷ ds) = one names d ++ in_each named one (names ++ option_to_list (named d)) ds

-- the first fault of a list, if it has one
abbrev pub first : {F : Type 0} → List F → Option F
first [] = None
first (f ∷ fs) = Some f

-- there is no fault, or it is the first of them
abbrev pub IsFirst : {A F : Type 0} → Result A F → List F → Type 0
IsFirst (Ok x) faults = faults ≡ []
IsFirst (Err e) faults = first faults ≡ Some e
