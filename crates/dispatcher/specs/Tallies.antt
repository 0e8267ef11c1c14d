-- Claimed: what contracts promise to a reader rests on these words.
-- How many transactions are settled, and how they ended.
use Rattle.std.specs.Prelude.{◌≡◌, ◌+◌, Bool, true, false, if◌then◌else◌, List, [], ◌∷◌, ◌++◌, length, count_by, Some, ⊤}
use Rattle.meaning.specs.Entries.{Reply, commit, aborted, stale}
use Rattle.scheduler_core.specs.declared.phase.Phase.{Phase}
use Rattle.scheduler_core.specs.Phases.{is_settled}
use Rattle.sequencer.specs.Attempts.{is_stale}
use Rattle.progress.specs.declared.tally.Tally.{Tally}
use Rattle.progress.specs.Tallies.{latest}

-- the reply is a commit
abbrev pub is_commit : Reply → Bool
is_commit (commit values) = true
is_commit (aborted code) = false
is_commit stale = false

-- the reply is an abort
abbrev pub is_abort : Reply → Bool
is_abort (commit values) = false
is_abort (aborted code) = true
is_abort stale = false

-- the tally of these replies
abbrev pub tally_of : List Reply → Tally
tally_of replies = record {
  settled = length replies;
  committed = count_by is_commit replies;
  aborted = count_by is_abort replies;
  stale = count_by is_stale replies;
}

-- the tally of all that two tallies count
abbrev pub together : Tally → Tally → Tally
together s t = record {
  settled = s.settled + t.settled;
  committed = s.committed + t.committed;
  aborted = s.aborted + t.aborted;
  stale = s.stale + t.stale;
}

-- the tally with one more reply
abbrev pub counted : Tally → Reply → Tally
counted tally reply = together tally (tally_of (reply ∷ []))

-- of the replies of a batch those of the transactions that are settled
abbrev pub settled_among : List Phase → List Reply → List Reply
settled_among [] replies = []
settled_among (p ∷ phases) [] = []
settled_among (p ∷ phases) (reply ∷ replies) =
    if is_settled (Some p) then reply ∷ settled_among phases replies else settled_among phases replies

-- each tally counts one reply more than the one before it, the first of them one more than this one
abbrev pub RiseByOne : Tally → List Tally → Type 0
RiseByOne tally [] = ⊤
RiseByOne tally (next ∷ tallies) = ((reply : Reply) × (next ≡ counted tally reply)) × RiseByOne next tallies

-- a published list went on: each tally that it gained counts one reply more than the one before. Which replies these
-- are follows where its last tally shows what is settled, before and after
abbrev pub GainsTallies : List Tally → List Tally → Type 0
GainsTallies old new = (gained : List Tally) × (new ≡ old ++ gained) × RiseByOne (latest old) gained
