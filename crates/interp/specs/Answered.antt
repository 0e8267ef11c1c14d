-- Of the code: invariants and steps; no promise rests on these words.
-- A number or the reason why there is none, where both come back apart.
use Rattle.std.specs.Prelude.{ℤ, Option, None, Some, Result, Ok, Err}
use Rattle.workspace.specs.declared.stop.Stop.{Stop}

-- the number that may be there, and else the reason
abbrev pub answered : Option ℤ → Stop → Result ℤ Stop
answered (Some z) stop = Ok z
answered None stop = Err stop
