use Rattle.std.proofs.Common.{◌≡◌, ◌<◌, ◌≤◌, ◌+◌, ◌-◌, ℕ, List, length, map, Some, slice_get, refl, sym, ap, ◌∙◌, subst, arith}
use Rattle.std.proofs.lemmas.Bool.Decides.{nat_tests}
use Rattle.scheduler.specs.declared.slot.Slot.{Slot}
use Rattle.scheduler.specs.Schedules.{log_of, phase_in}
use Rattle.scheduler.specs.Scheduled.{StandsAside}
use Rattle.scheduler.specs.Moments.{is_next_ready}
use Rattle.scheduler.proofs.Admitting.{below_number, transaction_there}
use Rattle.scheduler.proofs.Known.{plans_in, work_in, schedule_in}
use Rattle.scheduler.proofs.Between.{all_leading, none_more, one_more, lend_is, ready_alone, transaction_at, joins_as}
use Rattle.scheduler.proofs.Beside.{joins_aside}
use Rattle.scheduler.proofs.scheduler.Scheduler.is_next_ready.Goals as goal

pub returns-then-place-len : goal.returns-then-place-len
returns-then-place-len c =
    sym (none_more (schedule_in c.self.inside) (let e = c.if-place-len.true in grind (arith, nat_tests, c.len-place.ensures, c.len.ensures)))
    ∙ ap is_next_ready c.self.view_is

pub returns-then-self-place : goal.returns-then-self-place
returns-then-self-place c =
    let w = work_in c.self.inside in let slots = c.self.inside.slots.items in
    let less : length slots < length c.self.inside.entries.items = (let e = c.if-place-len.false in grind (arith, nat_tests, c.len-place.ensures, c.len.ensures)) in
    let t = transaction_at w c.self.invariant.0 (length slots) less in
    let all = all_leading slots c.self.inside.settled c.self.invariant.2 (let e = c.if-self-place.true in grind (arith, nat_tests, c.len-place.ensures)) in
    sym (one_more (schedule_in c.self.inside) less ∙ lend_is w slots
    ∙ ready_alone w (c.admitted_and_unsettled_wait.ensures w.first (log_of w)) c.first_ready.ensures slots t.0 t.1 all)
    ∙ ap is_next_ready c.self.view_is

pub at-next-requires-clause-begun : goal.at-next-requires-clause-begun
at-next-requires-clause-begun c =
    let begun = c.self.invariant.3.are_made.begun in
    let e = c.if-self-place.false in grind (arith, nat_tests, c.len-place.ensures, begun)

pub at-next-requires-clause-made : goal.at-next-requires-clause-made
at-next-requires-clause-made c =
    let slots = c.self.inside.slots.items in
    let many : length (plans_in c.self.inside) ≡ length c.self.inside.entries.items = c.self.invariant.0.plans in
    let count : c.len-place.result ≡ length slots = omega (arith, c.len-place.ensures) in
    let open_one : c.self.inside.settled < length slots = (let e = c.if-self-place.false in grind (arith, nat_tests, count)) in
    let more : length slots < length (plans_in c.self.inside) = (let e = c.if-place-len.false in grind (arith, nat_tests, c.len.ensures, count, many)) in
    let made = c.self.invariant.3.are_made.next open_one more in
    omega (arith, made, count)

pub returns-then-stand_aside : goal.returns-then-stand_aside
returns-then-stand_aside c =
    let w = work_in c.self.inside in let slots = c.self.inside.slots.items in let plans = c.self.inside.plans in
    let follows = c.admitted_and_unsettled_wait.ensures w.first (log_of w) in
    let count : c.len-place.result ≡ length slots = omega (arith, c.len-place.ensures) in
    let less : length slots < length c.self.inside.entries.items = (let e = c.if-place-len.false in grind (arith, nat_tests, c.len-place.ensures, c.len.ensures)) in
    let begun : plans.from ≤ c.len-place.result = (let b = c.self.invariant.3.are_made.begun in let e = c.if-self-place.false in grind (arith, nat_tests, b)) in
    let at : slice_get (plans_in c.self.inside) (length slots) ≡ Some c.at-next.result.now =
    ap (slice_get (plans_in c.self.inside)) (sym count) ∙ c.self.invariant.3.are_made.are_plans c.len-place.result c.at-next.result.now begun c.at-next.ensures in
    let t = transaction_there c.self.inside.entries.items (plans_in c.self.inside) (length slots) c.at-next.result.now c.self.invariant.0.plans at in
    let aside = subst (λ (xs : List Slot). (place : ℕ) → c.self.inside.settled ≤ place → place < length xs → StandsAside (slice_get (map phase_in xs) place) (slice_get plans.made.items (place - plans.from)) c.at-next.result.now)
    c.deref.ensures.value (c.stand_aside.ensures c.if-stand_aside.true) in
    sym (joins_aside w follows c.ready_beside.ensures c.self.invariant.0 slots c.self.inside.store c.self.inside.locks c.self.invariant.1 c.self.inside.settled plans.from plans.made.items c.self.invariant.2
    c.self.invariant.3.are_made c.at-next.result.now aside t.0 t.1 t.2)
    ∙ joins_as w follows slots c.self.inside.store c.self.inside.locks c.self.invariant.1 t.0 c.at-next.result.now t.1 t.2
    ∙ sym (one_more (schedule_in c.self.inside) less ∙ lend_is w slots)
    ∙ ap is_next_ready c.self.view_is

pub returns : goal.returns
returns c =
    let w = work_in c.self.inside in let slots = c.self.inside.slots.items in
    let follows = c.admitted_and_unsettled_wait.ensures w.first (log_of w) in
    let count : c.len-place.result ≡ length slots = omega (arith, c.len-place.ensures) in
    let less : length slots < length c.self.inside.entries.items = (let e = c.if-place-len.false in grind (arith, nat_tests, c.len-place.ensures, c.len.ensures)) in
    let begun : c.self.inside.plans.from ≤ c.len-place.result = (let b = c.self.invariant.3.are_made.begun in let e = c.if-self-place.false in grind (arith, nat_tests, b)) in
    let at : slice_get (plans_in c.self.inside) (length slots) ≡ Some c.at-next.result.now =
    ap (slice_get (plans_in c.self.inside)) (sym count) ∙ c.self.invariant.3.are_made.are_plans c.len-place.result c.at-next.result.now begun c.at-next.ensures in
    let t = transaction_there c.self.inside.entries.items (plans_in c.self.inside) (length slots) c.at-next.result.now c.self.invariant.0.plans at in
    c.would_be_ready.ensures (w.first + length slots) (below_number w slots c.self.inside.store c.self.inside.locks c.self.invariant.1 follows (w.first + length slots) refl)
    ∙ joins_as w follows slots c.self.inside.store c.self.inside.locks c.self.invariant.1 t.0 c.at-next.result.now t.1 t.2
    ∙ sym (one_more (schedule_in c.self.inside) less ∙ lend_is w slots)
    ∙ ap is_next_ready c.self.view_is
