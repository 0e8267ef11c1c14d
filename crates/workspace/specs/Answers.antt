-- Claimed: what contracts promise to a reader rests on these words.
-- What an answer of the code says of a part of a run.
use Rattle.std.specs.Prelude.{◌≡◌, List, ◌++◌, Result, Ok, Err, ⊤}
use Rattle.values.specs.declared.value.Value.{Value}
use Rattle.meaning.specs.declared.outcome.Ending.{Ending}
use Rattle.meaning.specs.Runs.{State}
use Rattle.workspace.specs.declared.stop.Stop.{Stop}
use Rattle.workspace.specs.declared.stop.Stop.TheVariants.{Memory, End}

-- the part of a run ends so and leaves that state, unless memory ran out
abbrev pub StopsWith : {A : Type 0} → State → Stop → Result A Ending × State → Type 0
StopsWith left Memory ran = ⊤
StopsWith left (End e) ran = ran ≡ (Err e, left)

-- the part of a run comes to what was answered and leaves that state, unless memory ran out
abbrev pub Gives : {A B : Type 0} → (A → B) → State → Result A Stop → Result B Ending × State → Type 0
Gives view left (Ok x) ran = ran ≡ (Ok (view x), left)
Gives view left (Err stop) ran = StopsWith left stop ran

-- what a part of a run comes to, with these values in front
abbrev pub prefixed : List Value → Result (List Value) Ending × State → Result (List Value) Ending × State
prefixed front (Ok values, st) = (Ok (front ++ values), st)
prefixed front (Err e, st) = (Err e, st)
