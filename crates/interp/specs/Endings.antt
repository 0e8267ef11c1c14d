-- Of the code: invariants and steps; no promise rests on these words.
-- The outcomes of runs that end before their body's end.
use Rattle.meaning.specs.declared.outcome.Ending.{Ending}
use Rattle.meaning.specs.declared.outcome.Ending.TheVariants as endings
use Rattle.meaning.specs.declared.outcome.Outcome.{Outcome}
use Rattle.meaning.specs.declared.outcome.Outcome.TheVariants.{Abort, Stale}

abbrev pub outcome_of : Ending → Outcome
outcome_of (endings.Abort code) = Abort code
outcome_of endings.Stale = Stale
