-- Claimed: what contracts promise to a reader rests on these words.
-- Outcomes as values of the code, and the replies that they represent.
use Rattle.std.specs.Prelude.{Bool, true, false}
use Rattle.meaning.specs.declared.outcome.Outcome.{Outcome}
use Rattle.meaning.specs.declared.outcome.Outcome.TheVariants as outcomes
use Rattle.meaning.specs.Entries.{Reply, commit, aborted, stale}

-- the reply that an outcome of the code means
abbrev pub as_reply : Outcome → Reply
as_reply (outcomes.Commit values) = commit values.items
as_reply (outcomes.Abort code) = aborted code
as_reply outcomes.Stale = stale

-- an outcome is a commit
abbrev pub is_commit : Outcome → Bool
is_commit (outcomes.Commit values) = true
is_commit (outcomes.Abort code) = false
is_commit outcomes.Stale = false
