use Rattle.std.proofs.Common.{◌≡◌, map, ap, sym, ◌∙◌, subst}
use Rattle.scheduler_core.specs.Choices.{chosen, enabled_events}
use Rattle.scheduler.specs.Schedules.{Schedule, log_of, phases_of, phase_in, work_of, IsChoice}
use Rattle.scheduler.proofs.Listing.{choice_is}
use Rattle.scheduler.proofs.Known.{plans_in}
use Rattle.scheduler.proofs.scheduler.Scheduler.choose.Goals as goal

pub returns-clause-enabled : goal.returns-clause-enabled
returns-clause-enabled c =
    let w = work_of c.self.inside.catalogue c.self.inside.arena c.self.inside.first c.self.inside.entries.items (plans_in c.self.inside) c.self.inside.start.value.rows in
    let slots = c.self.inside.slots.items in
    let view : ◌≡◌ {A = Schedule} (record { work = w; slots = slots }) c.args.self.now = c.self.view_is in
    let e = c.chosen.ensures ∙ ap (chosen c.args.n) (c.deref.ensures.value ∙ c.in_ok-events.ensures) in
    subst (λ (s : Schedule). IsChoice s.work.arena s.work.first (log_of s.work) (phases_of s) c.chosen.result) view
    (choice_is c.enabled_events_are_listed.ensures w.arena w.first (log_of w) (map phase_in slots) c.args.n c.self.invariant.1.sound.within c.self.invariant.0.fit c.chosen.result
    (subst (λ (s : Schedule). c.chosen.result ≡ chosen c.args.n (enabled_events s.work.arena s.work.first (log_of s.work) (phases_of s))) (sym view) e))
