use Rattle.std.proofs.Common.{◌≡◌, ◌<◌, ◌+◌, ◌++◌, ◌∷◌, length, map, take, filter, get_or, Some, slice_get, sym, ◌∙◌, subst, arith}
use Rattle.std.proofs.lemmas.Option.{slice_get-get_or}
use Rattle.scheduler_core.specs.declared.event.Event.TheVariants.{Admit}
use Rattle.scheduler_core.specs.Events.{enabled}
use Rattle.scheduler_core.specs.Choices.{next_steps}
use Rattle.scheduler.specs.declared.slot.Slot.TheVariants.{Idle}
use Rattle.scheduler.specs.Schedules.{Schedule, log_of, phases_of, phase_in, work_of, steps_of, next_step_at}
use Rattle.scheduler.proofs.Listing.{one_more}
use Rattle.scheduler.proofs.Known.{plans_in}
use Rattle.scheduler.proofs.scheduler.Scheduler.enabled_events.Goals as goal

pub loop-place-preserved : goal.loop-place-preserved
loop-place-preserved c =
    let w = work_of c.self.inside.catalogue c.self.inside.arena c.self.inside.first c.self.inside.entries.items (plans_in c.self.inside) c.self.inside.start.value.rows in
    let slots = c.self.inside.slots.items in
    let view : ◌≡◌ {A = Schedule} (record { work = w; slots = slots }) c.args.self.now = c.self.view_is in
    let places = c.events_by_places.ensures w.arena w.first (log_of w) (map phase_in slots) in
    let less : c.loop-place.place < length slots = omega (arith, c.loop-place-test.true, c.len-place-end.ensures) in
    let at : slice_get slots c.loop-place.place ≡ Some (get_or slots c.loop-place.place Idle) = slice_get-get_or slots c.loop-place.place Idle less in
    let so_far = subst (λ (s : Schedule). c.loop-place.events.items ≡ filter (enabled s.work.arena s.work.first (log_of s.work) (phases_of s)) (Admit ∷ next_steps s.work.first (take c.loop-place.place (phases_of s)))) (sym view) c.loop-place.invariant in
    let one = subst (λ (s : Schedule). steps_of c.enabled_step.result ≡ filter (enabled s.work.arena s.work.first (log_of s.work) (phases_of s)) (next_step_at s c.loop-place.place)) (sym view) c.enabled_step.ensures in
    c.in_ok-push-2.ensures
    ∙ subst (λ (s : Schedule). c.loop-place.events.items ++ steps_of c.enabled_step.result ≡ filter (enabled s.work.arena s.work.first (log_of s.work) (phases_of s)) (Admit ∷ next_steps s.work.first (take (c.loop-place.place + 1) (phases_of s)))) view
    (one_more w slots places c.loop-place.place (get_or slots c.loop-place.place Idle) c.loop-place.events.items c.enabled_step.result at so_far one)
