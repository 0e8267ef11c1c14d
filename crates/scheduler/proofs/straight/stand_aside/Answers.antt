use Rattle.std.proofs.Common.{◌≡◌, ◌<◌, ◌-◌, ℕ, length, map, Option, Some, slice_get, refl, sym, subst, arith, inl, inr}
use Rattle.std.proofs.lemmas.Option.{slice_get_read}
use Rattle.scheduler_core.specs.declared.phase.Phase.{Phase}
use Rattle.scheduler.specs.Schedules.{phase_in}
use Rattle.scheduler.specs.Scheduled.{StandsAside}
use Rattle.scheduler.proofs.Numbers.{same_number}
use Rattle.scheduler.proofs.Slots.{phase_at}
use Rattle.scheduler.proofs.straight.stand_aside.Goals as goal

pub loop-place-preserved : goal.loop-place-preserved
loop-place-preserved c = λ k enough less.
    let slots = c.args.slots.now in let made = c.args.plans.now.made.items in let from = c.args.plans.now.from in let plan = c.args.plan.now in
    let within : c.loop-place.place < length slots = omega (arith, c.loop-place-test.true) in
    let at : slice_get slots c.loop-place.place ≡ Some c.index-slots-place.result = slice_get_read slots (length slots) c.loop-place.place c.index-slots-place.result refl within c.index-slots-place.is in
    let one : StandsAside (slice_get (map phase_in slots) c.loop-place.place) (slice_get made (c.loop-place.place - from)) plan =
    subst (λ (p : Option Phase). StandsAside p (slice_get made (c.loop-place.place - from)) plan) (sym (phase_at slots c.loop-place.place c.index-slots-place.result at)) (c.stands_aside.ensures c.if-not-stands_aside.false) in
    elim (same_number k c.loop-place.place) as (λ _. StandsAside (slice_get (map phase_in slots) k) (slice_get made (k - from)) plan) [
      | inl e ↦ subst (λ (i : ℕ). StandsAside (slice_get (map phase_in slots) i) (slice_get made (i - from)) plan) (sym e) one
      | inr n ↦ c.loop-place.invariant k enough (omega (arith, less, n))
    ]
