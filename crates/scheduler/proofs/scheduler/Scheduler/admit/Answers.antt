use Rattle.std.proofs.Common.{◌≡◌, ◌≤◌, ◌+◌, ◌++◌, ◌∷◌, [], ℕ, List, length, false, Some, slice_get, refl, sym, ap, ◌∙◌, subst, arith}
use Rattle.coarsen.specs.Subtrees.{Requests}
use Rattle.scheduler_core.specs.declared.event.Event.TheVariants.{Admit}
use Rattle.scheduler_core.specs.Events.{enabled}
use Rattle.scheduler.specs.declared.slot.Slot.{Slot}
use Rattle.scheduler.specs.declared.slot.Slot.TheVariants.{Idle}
use Rattle.scheduler.specs.Scheduled.{IsScheduled, AreSettledBefore, AreMade}
use Rattle.scheduler.specs.Schedules.{Schedule, log_of, phases_of, work_of}
use Rattle.scheduler.proofs.Admitting.{transaction_there, none_next, below_number}
use Rattle.scheduler.proofs.Steps.{admitted}
use Rattle.scheduler.proofs.Leading.{settled_pushed, length_pushed}
use Rattle.interp.specs.Entries.{EntryParts}
use Rattle.scheduler.specs.Logs.{plans_for}
use Rattle.scheduler.proofs.Known.{plans_in}
use Rattle.scheduler.proofs.scheduler.Scheduler.admit.Goals.{In-Ok}
use Rattle.scheduler.proofs.scheduler.Scheduler.admit.Goals as goal

-- the plans that are made for it
next_made : (c : In-Ok) → AreMade (plans_in c.self.inside) c.self.inside.settled (c.len-place.result + 1) c.make_next.new.self.from c.make_next.new.self.made.items
next_made c =
    subst (λ (es : List EntryParts). AreMade (plans_for c.self.inside.threshold c.self.inside.arena es) c.self.inside.settled (c.len-place.result + 1) c.make_next.new.self.from c.make_next.new.self.made.items)
    c.deref.ensures.value c.in-Ok.ensures.next

pub invariant_of-self-in-Ok-enqueue : goal.invariant_of-self-in-Ok-enqueue
invariant_of-self-in-Ok-enqueue c =
    let w = work_of c.self.inside.catalogue c.self.inside.arena c.self.inside.first c.self.inside.entries.items (plans_in c.self.inside) c.self.inside.start.value.rows in
    let count : c.len-place.result ≡ length c.self.inside.slots.items = omega (arith, c.len-place.ensures) in
    let next = next_made (goal.at.invariant_of-self-in-Ok-enqueue c).In-Ok in
    let begun : c.make_next.new.self.from ≤ c.len-place.result = (let b = next.begun in let l : c.self.inside.settled ≤ length c.self.inside.slots.items = c.self.invariant.2.within in omega (arith, b, l, count)) in
    let at : slice_get (plans_in c.self.inside) c.len-place.result ≡ Some c.at.result.now = next.are_plans c.len-place.result c.at.result.now begun c.at.ensures in
    let t = transaction_there c.self.inside.entries.items (plans_in c.self.inside) c.len-place.result c.at.result.now c.self.invariant.0.plans at in
    let items : c.push.new.self.items ≡ c.self.inside.slots.items ++ Idle ∷ [] = c.push.ensures.items ∙ rw c.if-is_err.ensures.negation refl in (
      c.self.invariant.0,
      subst (λ (slots : List Slot). IsScheduled w slots c.self.inside.store c.enqueue.new.self) (sym items)
          (admitted w (c.rows_are_serial.ensures w.tables w.first (log_of w) w.start c.self.invariant.0.planned) (c.admitted_and_unsettled_wait.ensures w.first (log_of w))
          c.self.inside.slots.items c.self.inside.store c.self.inside.locks c.enqueue.new.self t.0 (c.self.inside.first + c.len-place.result) c.self.invariant.1 (ap (slice_get (log_of w)) (sym count) ∙ t.1) (ap (λ n. c.self.inside.first + n) count)
          (c.in-Ok-enqueue.ensures.enqueued ∙ ap (λ (p : Requests). record (c.self.inside.locks) { waiting = c.self.inside.locks.waiting ++ record { no = c.self.inside.first + c.len-place.result; plan = p; marked = false } ∷ [] }) (sym t.2))),
      subst (λ (slots : List Slot). AreSettledBefore slots c.self.inside.settled) (sym items) (settled_pushed c.self.inside.slots.items c.self.inside.settled c.self.invariant.2),
      record {
        some = c.self.invariant.3.some;
        are_made = subst (λ (n : ℕ). AreMade (plans_in c.self.inside) c.self.inside.settled n c.make_next.new.self.from c.make_next.new.self.made.items)
            (ap (λ (n : ℕ). n + 1) count ∙ sym (length_pushed c.self.inside.slots.items Idle) ∙ ap length (sym items)) next;
      },
    )

pub returns-then-place-len-clause-last : goal.returns-then-place-len-clause-last
returns-then-place-len-clause-last c is =
    let w = work_of c.self.inside.catalogue c.self.inside.arena c.self.inside.first c.self.inside.entries.items (plans_in c.self.inside) c.self.inside.start.value.rows in
    let many : length (plans_in c.self.inside) ≡ length c.self.inside.entries.items = c.self.invariant.0.plans in
    let past : length (plans_in c.self.inside) ≤ length c.self.inside.slots.items = omega (arith, c.if-place-len.true, c.len-place.ensures, c.len.ensures, many) in
    subst (λ (s : Schedule). enabled s.work.arena s.work.first (log_of s.work) (phases_of s) Admit ≡ false) c.self.view_is
    (none_next w c.self.inside.slots.items c.self.inside.store c.self.inside.locks c.self.invariant.1 c.self.invariant.0 past)

pub enqueue-requires : goal.enqueue-requires
enqueue-requires c =
    let w = work_of c.self.inside.catalogue c.self.inside.arena c.self.inside.first c.self.inside.entries.items (plans_in c.self.inside) c.self.inside.start.value.rows in
    let count : c.len-place.result ≡ length c.self.inside.slots.items = omega (arith, c.len-place.ensures) in
    below_number w c.self.inside.slots.items c.self.inside.store c.self.inside.locks c.self.invariant.1 (c.admitted_and_unsettled_wait.ensures w.first (log_of w)) (c.self.inside.first + c.len-place.result) (ap (λ n. c.self.inside.first + n) count)
