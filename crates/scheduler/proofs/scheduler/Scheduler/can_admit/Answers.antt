use Rattle.std.proofs.Common.{◌≡◌, ◌<◌, ◌≤◌, ◌+◌, nat_le, true, false, length, Some, slice_get, sym, ap, ◌∙◌, subst, arith}
use Rattle.std.proofs.lemmas.Bool.Decides.{nat_tests}
use Rattle.coarsen.specs.Subtrees.{Requests}
use Rattle.lock_tree.specs.Locks.{Locks, used}
use Rattle.scheduler_core.specs.declared.event.Event.TheVariants.{Admit}
use Rattle.scheduler_core.specs.Events.{enabled}
use Rattle.scheduler.specs.Schedules.{Schedule, log_of, phases_of}
use Rattle.scheduler.proofs.Admitting.{transaction_there, room, none_next}
use Rattle.scheduler.proofs.Known.{plans_in, work_in}
use Rattle.scheduler.proofs.Making.{room_at_first}
use Rattle.scheduler.proofs.Between.{none_waiting}
use Rattle.scheduler.proofs.scheduler.Scheduler.can_admit.Goals as goal

pub returns-then-admitted-len : goal.returns-then-admitted-len
returns-then-admitted-len c =
    let w = work_in c.self.inside in
    let slots = c.self.inside.slots.items in
    let view : ◌≡◌ {A = Schedule} (record { work = w; slots = slots }) c.args.self.now = c.self.view_is in
    let count : c.len-admitted.result ≡ length slots = omega (arith, c.len-admitted.ensures) in
    let many : length (plans_in c.self.inside) ≡ length c.self.inside.entries.items = c.self.invariant.0.plans in
    let past : length (plans_in c.self.inside) ≤ length slots = omega (arith, c.if-admitted-len.true, c.len.ensures, count, many) in
    subst (λ (s : Schedule). false ≡ enabled s.work.arena s.work.first (log_of s.work) (phases_of s) Admit) view
    (sym (none_next w slots c.self.inside.store c.self.inside.locks c.self.invariant.1 c.self.invariant.0 past))

pub returns-then-self-admitted : goal.returns-then-self-admitted
returns-then-self-admitted c =
    let w = work_in c.self.inside in
    let slots = c.self.inside.slots.items in
    let view : ◌≡◌ {A = Schedule} (record { work = w; slots = slots }) c.args.self.now = c.self.view_is in
    let count : c.len-admitted.result ≡ length slots = omega (arith, c.len-admitted.ensures) in
    let more : length slots < length c.self.inside.entries.items = (let e = c.if-admitted-len.false in grind (arith, nat_tests, c.len.ensures, count)) in
    let enough : length slots ≤ c.self.inside.settled = (let e = c.if-self-admitted.true in grind (arith, nat_tests, count)) in
    let none = none_waiting w slots c.self.inside.store c.self.inside.locks c.self.invariant.1 c.self.inside.settled c.self.invariant.2 enough in
    subst (λ (s : Schedule). true ≡ enabled s.work.arena s.work.first (log_of s.work) (phases_of s) Admit) view
    (sym (room_at_first w slots c.self.inside.store c.self.inside.locks c.self.invariant.0 c.self.invariant.1 none more))

pub at-requires-clause-begun : goal.at-requires-clause-begun
at-requires-clause-begun c =
    let begun = c.self.invariant.3.are_made.begun in
    let e = c.if-self-admitted.false in grind (arith, nat_tests, c.len-admitted.ensures, begun)

pub at-requires-clause-made : goal.at-requires-clause-made
at-requires-clause-made c =
    let slots = c.self.inside.slots.items in
    let many : length (plans_in c.self.inside) ≡ length c.self.inside.entries.items = c.self.invariant.0.plans in
    let count : c.len-admitted.result ≡ length slots = omega (arith, c.len-admitted.ensures) in
    let open_one : c.self.inside.settled < length slots = (let e = c.if-self-admitted.false in grind (arith, nat_tests, count)) in
    let more : length slots < length (plans_in c.self.inside) = (let e = c.if-admitted-len.false in grind (arith, nat_tests, c.len.ensures, count, many)) in
    let made = c.self.invariant.3.are_made.next open_one more in
    omega (arith, made, count)

pub returns : goal.returns
returns c =
    let w = work_in c.self.inside in
    let slots = c.self.inside.slots.items in
    let view : ◌≡◌ {A = Schedule} (record { work = w; slots = slots }) c.args.self.now = c.self.view_is in
    let count : c.len-admitted.result ≡ length slots = omega (arith, c.len-admitted.ensures) in
    let begun : c.self.inside.plans.from ≤ c.len-admitted.result =
    (let b = c.self.invariant.3.are_made.begun in let e = c.if-self-admitted.false in grind (arith, nat_tests, b)) in
    let at : slice_get (plans_in c.self.inside) (length slots) ≡ Some c.at.result.now =
    ap (slice_get (plans_in c.self.inside)) (sym count) ∙ c.self.invariant.3.are_made.are_plans c.len-admitted.result c.at.result.now begun c.at.ensures in
    let t = transaction_there c.self.inside.entries.items (plans_in c.self.inside) (length slots) c.at.result.now c.self.invariant.0.plans at in
    subst (λ (s : Schedule). c.has_room.result ≡ enabled s.work.arena s.work.first (log_of s.work) (phases_of s) Admit) view
    (c.has_room.ensures ∙ ap (λ (p : Requests). nat_le (used c.self.inside.locks.waiting + length p) c.self.inside.locks.arena) (sym t.2)
    ∙ ap (λ (l : Locks). nat_le (used c.self.inside.locks.waiting + length t.0.plan) l.arena) c.self.invariant.1.tree_is
    ∙ sym (room w slots c.self.inside.store c.self.inside.locks c.self.invariant.1 t.0 t.1))
