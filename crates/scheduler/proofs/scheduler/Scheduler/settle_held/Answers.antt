use Rattle.std.proofs.Common.{◌≡◌, ◌<◌, length, map, ap, ◌∙◌, subst, arith}
use Rattle.scheduler.specs.Schedules.{Schedule, phases_of, phase_in}
use Rattle.scheduler.specs.Settling.{settled_at}
use Rattle.scheduler.proofs.Places.{length_map}
use Rattle.scheduler.proofs.Settles.{one_more}
use Rattle.scheduler.proofs.scheduler.Scheduler.settle_held.Goals as goal

pub loop-place-preserved : goal.loop-place-preserved
loop-place-preserved c =
    let i = c.loop-place.invariant in
    let count : length (map phase_in c.self.inside.slots.items) ≡ length c.self.inside.slots.items = length_map phase_in c.self.inside.slots.items in
    let here : c.loop-place.place < length (map phase_in c.self.inside.slots.items) = omega (arith, c.loop-place-test.true, c.len-place-end.ensures, count) in
    let less = subst (λ (s : Schedule). c.loop-place.place < length (phases_of s)) c.self.view_is here in (
      c.settle_place.ensures.phases ∙ ap (settled_at c.loop-place.place) i.0 ∙ one_more (phases_of c.args.self.now) c.loop-place.place less,
      c.settle_place.ensures.work ∙ i.1,
      c.settle_place.ensures.keeps,
      c.settle_place.ensures.count ∙ i.3,
    )
