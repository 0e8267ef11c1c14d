use Rattle.std.proofs.Common.{refl, sym, ◌∙◌, arith}
use Rattle.scheduler.specs.declared.slot.Slot.TheVariants.{Idle, Held}
use Rattle.scheduler.proofs.Known.{known, work_in, still_keeps}
use Rattle.scheduler.proofs.Making.{made_where_open, with_plans, after_put}
use Rattle.scheduler.proofs.Lendables.{Offer, lendable_seen, offer}
use Rattle.scheduler.proofs.Played.{answers_lend}
use Rattle.scheduler.proofs.scheduler.Scheduler.play_lend.Goals.{After-at}
use Rattle.scheduler.proofs.scheduler.Scheduler.play_lend.Goals as goal

pub index-requires : goal.index-requires
index-requires c =
    let k = known c.self.inside c.self.invariant c.rows_are_serial.ensures c.admitted_and_unsettled_wait.ensures in
    let o = lendable_seen c.self.inside k c.args.self.now c.self.view_is c.args.no c.in-Some.place c.in-Some.ensures.some.0 c.deref.result.now
    c.deref.ensures.value (c.is_idle.ensures.slot c.if-not-is_idle.false) (sym c.is_ready.ensures ∙ c.if-not-is_ready.false) in
    omega (arith, o.in_entries, c.self.inside.entries.ok.0)

pub at-requires-clause-begun : goal.at-requires-clause-begun
at-requires-clause-begun c =
    let k = known c.self.inside c.self.invariant c.rows_are_serial.ensures c.admitted_and_unsettled_wait.ensures in
    let o = lendable_seen c.self.inside k c.args.self.now c.self.view_is c.args.no c.in-Some.place c.in-Some.ensures.some.0 c.deref.result.now
    c.deref.ensures.value (c.is_idle.ensures.slot c.if-not-is_idle.false) (sym c.is_ready.ensures ∙ c.if-not-is_ready.false) in
    (made_where_open (work_in c.self.inside) c.self.inside.slots.items c.self.inside.settled c.self.inside.plans.from c.self.inside.plans.made.items c.self.invariant.2 c.self.invariant.3 c.in-Some.place Idle o.slot refl).0

pub at-requires-clause-made : goal.at-requires-clause-made
at-requires-clause-made c =
    let k = known c.self.inside c.self.invariant c.rows_are_serial.ensures c.admitted_and_unsettled_wait.ensures in
    let o = lendable_seen c.self.inside k c.args.self.now c.self.view_is c.args.no c.in-Some.place c.in-Some.ensures.some.0 c.deref.result.now
    c.deref.ensures.value (c.is_idle.ensures.slot c.if-not-is_idle.false) (sym c.is_ready.ensures ∙ c.if-not-is_ready.false) in
    (made_where_open (work_in c.self.inside) c.self.inside.slots.items c.self.inside.settled c.self.inside.plans.from c.self.inside.plans.made.items c.self.invariant.2 c.self.invariant.3 c.in-Some.place Idle o.slot refl).1

-- the transaction of this entry and this plan may be lent its rows
offered : (c : After-at) → Offer c.self.inside c.args.no c.in-Some.place c.index.result.now c.at.result.now
offered c =
    let k = known c.self.inside c.self.invariant c.rows_are_serial.ensures c.admitted_and_unsettled_wait.ensures in
    let o = lendable_seen c.self.inside k c.args.self.now c.self.view_is c.args.no c.in-Some.place c.in-Some.ensures.some.0 c.deref.result.now
    c.deref.ensures.value (c.is_idle.ensures.slot c.if-not-is_idle.false) (sym c.is_ready.ensures ∙ c.if-not-is_ready.false) in
    let made = made_where_open (work_in c.self.inside) c.self.inside.slots.items c.self.inside.settled c.self.inside.plans.from c.self.inside.plans.made.items c.self.invariant.2 c.self.invariant.3 c.in-Some.place Idle o.slot refl in
    offer c.self.inside k c.args.no c.in-Some.place o c.clashes_are_either_way.ensures c.index.result.now c.at.result.now c.index.ensures
    (c.self.invariant.3.are_made.are_plans c.in-Some.place c.at.result.now made.0 c.at.ensures)

pub lend_to-requires-clause-tables : goal.lend_to-requires-clause-tables
lend_to-requires-clause-tables c = (offered c).tables

pub lend_to-requires-clause-locks : goal.lend_to-requires-clause-locks
lend_to-requires-clause-locks c = (offered c).locks

pub lend_to-requires-clause-there : goal.lend_to-requires-clause-there
lend_to-requires-clause-there c = (offered c).there

pub lend_to-requires-clause-can : goal.lend_to-requires-clause-can
lend_to-requires-clause-can c = let o = offered c in record { over = o.over; unlent = o.unlent; apart = o.apart }

pub invariant_of-self : goal.invariant_of-self
invariant_of-self c =
    let f = offered (goal.at.invariant_of-self c).After-at in
    let e = c.in-Ok.ensures in
    with_plans (work_in c.self.inside) c.put.new.slots.items c.self.inside.settled c.self.inside.plans.from c.self.inside.plans.made.items c.lend_to.new.store c.lend_to.new.locks
    (f.leaves c.put.new.slots.items c.lend_to.new.store c.lend_to.new.locks (Held c.in-Ok.job) c.put.ensures c.lend_to.ensures.tables c.lend_to.ensures.rows e.lent e.marked refl
    (f.lends c.in-Ok.job e.job.numbered e.job.of_entry e.job.loan.of_plan e.job.loan.tables e.job.loan.rows))
    (after_put (work_in c.self.inside) c.self.inside.slots.items c.put.new.slots.items c.in-Some.place (Held c.in-Ok.job) c.self.inside.settled c.self.inside.settled c.self.inside.plans.from c.self.inside.plans.made.items c.put.ensures (omega arith) c.self.invariant.3)

pub returns-in-Ok-clause-answer : goal.returns-in-Ok-clause-answer
returns-in-Ok-clause-answer c =
    let k = known c.self.inside c.self.invariant c.rows_are_serial.ensures c.admitted_and_unsettled_wait.ensures in
    answers_lend c.self.inside k c.args.self.now c.self.view_is c.events_by_places.ensures c.args.no c.in-Some.place c.in-Some.ensures.some.0 c.put.new.slots.items (Held c.in-Ok.job)
    (offered (goal.at.returns-in-Ok-clause-answer c).After-at).lendable.slot (sym c.is_ready.ensures ∙ c.if-not-is_ready.false) refl c.put.ensures

pub returns-in-Ok-clause-keeps : goal.returns-in-Ok-clause-keeps
returns-in-Ok-clause-keeps c =
    still_keeps c.self.inside c.args.self.now c.self.view_is c.requires c.in-Some.place (Held c.in-Ok.job) c.put.new.slots.items (λ e. cc) c.put.ensures
