-- The transactions that wait follow from the phases.
use Rattle.std.proofs.Common.{◌≡◌, ℕ, ◌+◌, true, false, List, length, refl, arith, slice_get, slice_set}
use Rattle.lock_tree.specs.Locks.{with_mark, without}
use Rattle.lock_tree.specs.Laws.{ReadyStays}
use Rattle.scheduler_core.specs.declared.phase.Phase.{Phase}
use Rattle.scheduler_core.specs.declared.phase.Phase.TheVariants.{Idle, Out, Ran, Settled}
use Rattle.scheduler_core.specs.Transactions.{Transaction}
use Rattle.scheduler_core.specs.Phases.{is_out}
use Rattle.scheduler_core.specs.Events.{waiting}
use Rattle.scheduler_core.specs.Laws.{FollowsPhases, AdmittedAndUnsettledWait}
use Rattle.scheduler_core.proofs.PhaseTests.{out_is}
use Rattle.scheduler_core.proofs.Waits.{nothing_waits, plan_there, plan_from, waits_below, waits_rising}
use Rattle.scheduler_core.proofs.WaitChanges.{waits_pushed, waits_kept, waits_marked, waits_settled}
use Rattle.scheduler_core.proofs.Readies.{next_ready_lends}
use Rattle.scheduler_core.proofs.StayingReady.{stays_ready}

module _ (law : ReadyStays) (first : ℕ) (log : List Transaction) where
  taken_back : (phases : List Phase) (place : ℕ) → is_out (slice_get phases place) ≡ true
      → waiting first log (slice_set phases place Idle) ≡ with_mark (first + place) false (waiting first log phases)
  taken_back phases place out = let (p, is, unsettled, still) = out_is (slice_get phases place) out in waits_marked first log phases place p Idle is unsettled refl

  settles : (phases : List Phase) (place : ℕ) → is_out (slice_get phases place) ≡ true
      → waiting first log (slice_set phases place Settled) ≡ without (first + place) (waiting first log phases)
  settles phases place out = let (p, is, unsettled, still) = out_is (slice_get phases place) out in waits_settled first log phases place p is

  follows : FollowsPhases first log
  follows = record {
    starts = nothing_waits first log;
    admits = waits_pushed first log;
    lends = λ phases place is. waits_marked first log phases place Idle Out is refl refl;
    runs = λ phases place is. waits_kept first log phases place Out Ran is refl refl;
    takes_back = taken_back;
    settles = settles;
    there = plan_there first log;
    only = λ phases number plan is.
        let h = plan_from first log phases number plan is in
        (h.place, h.transaction, h.phase, h.numbered, h.at, h.phase_at, h.unsettled, h.plan_is);
    below = λ phases. waits_below first log phases (first + length phases) (omega arith);
    rising = waits_rising first log;
    next_ready = λ arena phases found within is. next_ready_lends arena first log phases found within is;
    stays_ready = stays_ready law first log;
  }

pub all_follow : ReadyStays → AdmittedAndUnsettledWait
all_follow law first log = follows law first log
