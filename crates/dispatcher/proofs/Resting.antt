-- With no job out and nothing to do all is done.
use Rattle.std.proofs.Common.{◌≡◌, ℕ, ◌-◌, ◌<◌, true, false, Option, None, Some, refl, sym, ◌∙◌, subst, slice_get}
use Rattle.scheduler_core.specs.declared.event.Event.{Event}
use Rattle.scheduler_core.specs.declared.event.Event.TheVariants.{Admit, Lend, Run, Settle}
use Rattle.scheduler_core.specs.declared.phase.Phase.{Phase}
use Rattle.scheduler_core.specs.declared.phase.Phase.TheVariants.{Idle, Out, Ran, Settled}
use Rattle.scheduler_core.specs.Phases.{is_done, is_lent, is_out, was_run}
use Rattle.scheduler.specs.Schedules.{Schedule, log_of, phases_of}
use Rattle.scheduler.specs.Moments.{can_make, IsNextAt, IsLeastLendAt}
use Rattle.lanes.specs.Seats.{SchedulerSeatOf, jobs_in}
use Rattle.dispatcher.specs.Runs.{NoneIsOut}
use Rattle.dispatcher.specs.Dispatched.{AreInLanes, MustWait}
use Rattle.dispatcher.proofs.Steps.{phase_there}
use Rattle.dispatcher.proofs.EmptyLanes.{empty_rests}

lent_out : (o : Option Phase) → is_lent o ≡ true → is_out o ≡ true
lent_out None is = is
lent_out (Some Idle) is = is
lent_out (Some Out) is = refl
lent_out (Some Ran) is = refl
lent_out (Some Settled) is = is

run_out : (o : Option Phase) → was_run o ≡ true → is_out o ≡ true
run_out None is = is
run_out (Some Idle) is = is
run_out (Some Out) is = refl
run_out (Some Ran) is = refl
run_out (Some Settled) is = is

none_out_is : (s : Schedule) (place : ℕ) → NoneIsOut (phases_of s) → is_out (slice_get (phases_of s) place) ≡ true → ⊥
none_out_is s place none is = let e : true ≡ false = sym is ∙ none place in cc

none_next_is : (s : Schedule) (event : Event) → NoneIsOut (phases_of s) → IsLeastLendAt s None → can_make s Admit ≡ false → can_make s event ≡ true → ⊥
none_next_is s Admit none ready next can = let e : true ≡ false = sym can ∙ next in cc
none_next_is s (Lend number) none ready next can = let e : true ≡ false = sym can ∙ ready number in cc
none_next_is s (Run number) none ready next can =
    let there = phase_there s.work.first number (phases_of s) is_lent refl can in
    none_out_is s (number - s.work.first) none (lent_out (slice_get (phases_of s) (number - s.work.first)) there.1)
none_next_is s (Settle number) none ready next can =
    let there = phase_there s.work.first number (phases_of s) was_run refl can in
    none_out_is s (number - s.work.first) none (run_out (slice_get (phases_of s) (number - s.work.first)) there.1)

nothing_left : (s : Schedule) (event : Option Event) → IsNextAt s event → NoneIsOut (phases_of s) → IsLeastLendAt s None → can_make s Admit ≡ false
    → is_done (log_of s.work) (phases_of s) ≡ true
nothing_left s None is none ready next = is
nothing_left s (Some event) is none ready next = absurd (none_next_is s event none ready next is.1)

-- where nothing can be done before a job comes back, and no job is out
pub waits_for_none : (s : Schedule) (seat : SchedulerSeatOf) (event : Option Event) → AreInLanes s seat → MustWait s seat → jobs_in seat.jobs ≡ 0
    → 0 < seat.lanes.count → IsNextAt s event → is_done (log_of s.work) (phases_of s) ≡ true
waits_for_none s seat event h wait empty some is =
    let few : jobs_in seat.jobs < seat.lanes.count = subst (λ (n : ℕ). n < seat.lanes.count) (sym empty) some in
    nothing_left s event is (empty_rests s seat h empty) (wait.none_ready few) (wait.none_next empty)
