use Rattle.std.proofs.Common.{◌≡◌, true, List, map, ap, ◌∙◌, sym, subst}
use Rattle.meaning.specs.Outcomes.{as_reply}
use Rattle.meaning.specs.Serial.{serial_end, serial_replies}
use Rattle.interp.specs.Entries.{entry_shape}
use Rattle.scheduler_core.specs.Phases.{is_done}
use Rattle.scheduler.specs.declared.slot.Slot.{Slot}
use Rattle.scheduler.specs.Replies.{replies_of, AreSettled}
use Rattle.scheduler.specs.Schedules.{Schedule, log_of, phases_of, work_of}
use Rattle.scheduler.proofs.Finishes.{settled_slots, end_rows, nothing_lent, end_replies}
use Rattle.scheduler.proofs.Known.{plans_in}
use Rattle.scheduler.proofs.scheduler.Scheduler.into_finished.Goals as goal

pub invariant_of-outcomes : goal.invariant_of-outcomes
invariant_of-outcomes c =
    let w = work_of c.self.inside.catalogue c.self.inside.arena c.self.inside.first c.self.inside.entries.items (plans_in c.self.inside) c.self.inside.start.value.rows in
    let slots = c.self.inside.slots.items in
    let view : ◌≡◌ {A = Schedule} (record { work = w; slots = slots }) c.args.self = c.self.view_is in
    let done = subst (λ (s : Schedule). is_done (log_of s.work) (phases_of s) ≡ true) (sym view) c.requires in
    subst AreSettled (sym c.into_iter.ensures.rest) (settled_slots w slots c.self.inside.store c.self.inside.locks c.self.invariant.0 c.self.invariant.1 done)

pub returns-clause-rows : goal.returns-clause-rows
returns-clause-rows c =
    let w = work_of c.self.inside.catalogue c.self.inside.arena c.self.inside.first c.self.inside.entries.items (plans_in c.self.inside) c.self.inside.start.value.rows in
    let slots = c.self.inside.slots.items in
    let view : ◌≡◌ {A = Schedule} (record { work = w; slots = slots }) c.args.self = c.self.view_is in
    let done = subst (λ (s : Schedule). is_done (log_of s.work) (phases_of s) ≡ true) (sym view) c.requires in
    subst (λ (s : Schedule). c.self.inside.store.rows ≡ serial_end (map entry_shape s.work.entries) s.work.start) view
    (end_rows w slots c.self.inside.store c.self.inside.locks c.self.invariant.0 c.self.invariant.1 done (c.rows_are_serial.ensures w.tables w.first (log_of w) w.start c.self.invariant.0.planned))

pub returns-clause-unlent : goal.returns-clause-unlent
returns-clause-unlent c =
    let w = work_of c.self.inside.catalogue c.self.inside.arena c.self.inside.first c.self.inside.entries.items (plans_in c.self.inside) c.self.inside.start.value.rows in
    let slots = c.self.inside.slots.items in
    let view : ◌≡◌ {A = Schedule} (record { work = w; slots = slots }) c.args.self = c.self.view_is in
    let done = subst (λ (s : Schedule). is_done (log_of s.work) (phases_of s) ≡ true) (sym view) c.requires in
    nothing_lent w slots c.self.inside.store c.self.inside.locks c.self.invariant.0 c.self.invariant.1 done

pub returns-clause-outcomes : goal.returns-clause-outcomes
returns-clause-outcomes c =
    let w = work_of c.self.inside.catalogue c.self.inside.arena c.self.inside.first c.self.inside.entries.items (plans_in c.self.inside) c.self.inside.start.value.rows in
    let slots = c.self.inside.slots.items in
    let view : ◌≡◌ {A = Schedule} (record { work = w; slots = slots }) c.args.self = c.self.view_is in
    let done = subst (λ (s : Schedule). is_done (log_of s.work) (phases_of s) ≡ true) (sym view) c.requires in
    ap (λ (xs : List Slot). map as_reply (replies_of xs)) c.into_iter.ensures.rest
    ∙ subst (λ (s : Schedule). map as_reply (replies_of slots) ≡ serial_replies (map entry_shape s.work.entries) s.work.start) view
    (end_replies w slots c.self.inside.store c.self.inside.locks c.self.invariant.0 c.self.invariant.1 done (c.serial_run_by_places.ensures (log_of w) w.start))
