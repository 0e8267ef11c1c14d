-- Claimed: what contracts promise to a reader rests on these words.
-- Reading a document from left to right: a value, or the first fault that is met.
use Rattle.std.specs.Prelude.{◌≡◌, List, [], ◌∷◌, ◌++◌, Option, Some, None, Result, Ok, Err, Bool, true, false, ⊤}
use Rattle.serde_json.specs.Data.{Data}

-- goes on with the value that was read
infixl 10 ◌>>=◌
abbrev pub ◌>>=◌ : {A B F : Type 0} → Result A F → (A → Result B F) → Result B F
(Ok x) >>= f = f x
(Err e) >>= f = Err e

-- What a function answered, seen by view, is what reading gives, unless it ran out of memory.
abbrev pub Reads : {X Y F : Type 0} → (F → Bool) → (X → Y) → Result X F → Result Y F → Type 0
Reads is_memory view (Ok x) reading = reading ≡ Ok (view x)
Reads is_memory view (Err e) reading = is_memory e ≡ false → reading ≡ Err e

-- the parts of a form, or the fault of a wrong one
abbrev pub formed : {A F : Type 0} → F → Option A → Result A F
formed fault (Some x) = Ok x
formed fault None = Err fault

-- goes on where the rule is kept
abbrev pub rule : {F : Type 0} → Bool → F → Result ⊤ F
rule true fault = Ok tt
rule false fault = Err fault

-- one after another, each with those before it
abbrev pub each_at : {X F : Type 0} → (List X → Data → Result X F) → List X → List Data → Result (List X) F
each_at one before [] = Ok before
each_at one before (d ∷ ds) = do
  x ← one before d
  each_at one (before ++ x ∷ []) ds
