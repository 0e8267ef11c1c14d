use Rattle.std.proofs.Common.{◌≡◌, ◌+◌, ap, subst}
use Rattle.scheduler_core.specs.declared.event.Event.TheVariants as event
use Rattle.scheduler_core.specs.Events.{Answers}
use Rattle.scheduler.specs.Schedules.{Schedule, log_of, phases_of}
use Rattle.scheduler.proofs.Settles.{settles_place}
use Rattle.scheduler.proofs.scheduler.Scheduler.settle_place.Goals as goal

pub returns-clause-phases : goal.returns-clause-phases
returns-clause-phases c =
    let now = c.args.self.now in
    let two = c.play_settle.new.self in
    let places = c.events_by_places.ensures now.work.arena now.work.first (log_of now.work) (phases_of now) in
    let first : c.self.inside.first ≡ now.work.first = ap (λ (s : Schedule). s.work.first) c.self.view_is in
    settles_place now.work.arena now.work.first (log_of now.work) now.slots two.slots c.take_back_held.new.self.slots c.args.place places
    c.play_settle.ensures.keeps c.take_back_held.ensures.held c.take_back_held.ensures.other c.play_settle.result c.play_settle.ensures.memory
    (subst (λ k. Answers now.work.arena now.work.first (log_of now.work) (phases_of now) (event.Settle (k + c.args.place)) c.play_settle.result (phases_of two)) first c.play_settle.ensures.answer)
