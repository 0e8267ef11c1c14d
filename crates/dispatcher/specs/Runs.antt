-- Claimed: what contracts promise to a reader rests on these words.
-- What a run of a scheduler's transactions keeps.
use Rattle.std.specs.Prelude.{◌≡◌, ◌+◌, ◌≤◌, ◌^◌, ℕ, List, true, false, length, slice_get}
use Rattle.scheduler_core.specs.declared.phase.Phase.{Phase}
use Rattle.scheduler_core.specs.Phases.{is_out, is_settled}
use Rattle.scheduler.specs.Schedules.{Schedule}

-- no job is out
abbrev pub NoneIsOut : List Phase → Type 0
NoneIsOut phases = (place : ℕ) → is_out (slice_get phases place) ≡ false

-- what is settled stays settled
abbrev pub StaysSettled : List Phase → List Phase → Type 0
StaysSettled old new =
    (place : ℕ) → is_settled (slice_get old place) ≡ true → is_settled (slice_get new place) ≡ true

-- a number of transactions, numbered from a first one
abbrev pub AreNumberedFrom : ℕ → ℕ → Schedule → Type 0
AreNumberedFrom first count s =
    (first ≡ s.work.first) × (count ≡ length s.work.entries) × (first + count ≤ 2 ^ 48)
