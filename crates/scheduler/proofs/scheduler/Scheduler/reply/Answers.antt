use Rattle.std.proofs.Common.{◌≡◌, ◌-◌, List, Some, IfSome, slice_get, subst}
use Rattle.meaning.specs.Outcomes.{as_reply}
use Rattle.scheduler_core.specs.Serial.{serial_reply}
use Rattle.scheduler.specs.declared.slot.Slot.{Slot}
use Rattle.scheduler.specs.declared.slot.Slot.TheVariants.{Settled}
use Rattle.scheduler.specs.Schedules.{Schedule, log_of, work_of}
use Rattle.scheduler.proofs.Slots.{if_some}
use Rattle.scheduler.proofs.Known.{plans_in}
use Rattle.scheduler.proofs.scheduler.Scheduler.reply.Goals as goal

pub returns-clause-serial : goal.returns-clause-serial
returns-clause-serial c =
    let w = work_of c.self.inside.catalogue c.self.inside.arena c.self.inside.first c.self.inside.entries.items (plans_in c.self.inside) c.self.inside.start.value.rows in
    subst (λ (s : Schedule). IfSome c.outcome_at.result (λ outcome. serial_reply (log_of s.work) s.work.start (c.args.no - s.work.first) ≡ Some (as_reply outcome.now))) c.self.view_is
    (if_some c.outcome_at.result c.outcome_at.ensures.kept
    (λ outcome at. c.self.invariant.1.kept (c.args.no - c.self.inside.first) (Settled outcome.now) (subst (λ (xs : List Slot). slice_get xs (c.args.no - c.self.inside.first) ≡ Some (Settled outcome.now)) c.deref.ensures.value at)))
