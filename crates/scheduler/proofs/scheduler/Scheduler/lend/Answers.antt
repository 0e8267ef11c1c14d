use Rattle.std.proofs.Common.{◌-◌, Some, None, refl, sym, subst, arith}
use Rattle.scheduler_core.specs.Choices.{IsLeastLend}
use Rattle.scheduler.specs.declared.slot.Slot.TheVariants.{Idle, Lent}
use Rattle.scheduler.specs.Schedules.{Schedule, log_of, phases_of}
use Rattle.scheduler.specs.Jobs.{LendsJob}
use Rattle.scheduler.proofs.Known.{known, work_in, schedule_in}
use Rattle.scheduler.proofs.Making.{made_where_open, with_plans, after_put}
use Rattle.scheduler.proofs.Lendables.{Offer, least, next_lendable, offer, lends_job}
use Rattle.scheduler.proofs.scheduler.Scheduler.lend.Goals.{After-at}
use Rattle.scheduler.proofs.scheduler.Scheduler.lend.Goals as goal

pub returns-in_default-clause-least : goal.returns-in_default-clause-least
returns-in_default-clause-least c =
    let k = known c.self.inside c.self.invariant c.rows_are_serial.ensures c.admitted_and_unsettled_wait.ensures in
    subst (λ (s : Schedule). IsLeastLend s.work.arena s.work.first (log_of s.work) (phases_of s) None) c.self.view_is (least c.self.inside k None c.in_default.ensures)

pub index-requires : goal.index-requires
index-requires c =
    let k = known c.self.inside c.self.invariant c.rows_are_serial.ensures c.admitted_and_unsettled_wait.ensures in
    let o = next_lendable c.self.inside k c.in-Some.no c.in-Some.ensures in
    omega (arith, o.in_entries, c.self.inside.entries.ok.0)

pub at-requires-clause-begun : goal.at-requires-clause-begun
at-requires-clause-begun c =
    let k = known c.self.inside c.self.invariant c.rows_are_serial.ensures c.admitted_and_unsettled_wait.ensures in
    let o = next_lendable c.self.inside k c.in-Some.no c.in-Some.ensures in
    (made_where_open (work_in c.self.inside) c.self.inside.slots.items c.self.inside.settled c.self.inside.plans.from c.self.inside.plans.made.items c.self.invariant.2 c.self.invariant.3 (c.in-Some.no - c.self.inside.first) Idle o.slot refl).0

pub at-requires-clause-made : goal.at-requires-clause-made
at-requires-clause-made c =
    let k = known c.self.inside c.self.invariant c.rows_are_serial.ensures c.admitted_and_unsettled_wait.ensures in
    let o = next_lendable c.self.inside k c.in-Some.no c.in-Some.ensures in
    (made_where_open (work_in c.self.inside) c.self.inside.slots.items c.self.inside.settled c.self.inside.plans.from c.self.inside.plans.made.items c.self.invariant.2 c.self.invariant.3 (c.in-Some.no - c.self.inside.first) Idle o.slot refl).1

-- the transaction of this entry and this plan may be lent its rows
offered : (c : After-at) → Offer c.self.inside c.in-Some.no (c.in-Some.no - c.self.inside.first) c.index.result.now c.at.result.now
offered c =
    let k = known c.self.inside c.self.invariant c.rows_are_serial.ensures c.admitted_and_unsettled_wait.ensures in
    let place = c.in-Some.no - c.self.inside.first in
    let o = next_lendable c.self.inside k c.in-Some.no c.in-Some.ensures in
    let made = made_where_open (work_in c.self.inside) c.self.inside.slots.items c.self.inside.settled c.self.inside.plans.from c.self.inside.plans.made.items c.self.invariant.2 c.self.invariant.3 (c.in-Some.no - c.self.inside.first) Idle o.slot refl in
    offer c.self.inside k c.in-Some.no place o c.clashes_are_either_way.ensures
    c.index.result.now c.at.result.now c.index.ensures (c.self.invariant.3.are_made.are_plans place c.at.result.now made.0 c.at.ensures)

pub lend_to-requires-clause-tables : goal.lend_to-requires-clause-tables
lend_to-requires-clause-tables c = (offered c).tables

pub lend_to-requires-clause-locks : goal.lend_to-requires-clause-locks
lend_to-requires-clause-locks c = (offered c).locks

pub lend_to-requires-clause-there : goal.lend_to-requires-clause-there
lend_to-requires-clause-there c = (offered c).there

pub lend_to-requires-clause-can : goal.lend_to-requires-clause-can
lend_to-requires-clause-can c = let o = offered c in record { over = o.over; unlent = o.unlent; apart = o.apart }

pub put-requires : goal.put-requires
put-requires c = (offered (goal.at.put-requires c).After-at).lendable.in_slots

pub invariant_of-self-2 : goal.invariant_of-self-2
invariant_of-self-2 c =
    with_plans (work_in c.self.inside) c.put.new.slots.items c.self.inside.settled c.self.inside.plans.from c.self.inside.plans.made.items c.lend_to.new.store c.lend_to.new.locks
    ((offered (goal.at.invariant_of-self-2 c).After-at).leaves c.put.new.slots.items c.lend_to.new.store c.lend_to.new.locks Lent c.put.ensures
    c.lend_to.ensures.tables c.lend_to.ensures.rows c.in_ok-job.ensures.lent c.in_ok-job.ensures.marked refl tt)
    (after_put (work_in c.self.inside) c.self.inside.slots.items c.put.new.slots.items (c.in-Some.no - c.self.inside.first) Lent c.self.inside.settled c.self.inside.settled c.self.inside.plans.from c.self.inside.plans.made.items c.put.ensures (omega arith) c.self.invariant.3)

pub returns-clause-least : goal.returns-clause-least
returns-clause-least c =
    let k = known c.self.inside c.self.invariant c.rows_are_serial.ensures c.admitted_and_unsettled_wait.ensures in
    subst (λ (s : Schedule). IsLeastLend s.work.arena s.work.first (log_of s.work) (phases_of s) (Some c.in_ok-job.job.no)) c.self.view_is
    (subst (λ n. IsLeastLend c.self.inside.arena c.self.inside.first (log_of (work_in c.self.inside)) (phases_of (schedule_in c.self.inside)) (Some n)) (sym c.in_ok-job.ensures.job.numbered)
    (least c.self.inside k (Some c.in-Some.no) c.in-Some.ensures))

pub returns-clause-lent : goal.returns-clause-lent
returns-clause-lent c =
    let f = offered (goal.at.returns-clause-lent c).After-at in
    let e = c.in_ok-job.ensures in
    subst (λ (s : Schedule). LendsJob s c.in_ok-job.job (record { work = work_in c.self.inside; slots = c.put.new.slots.items })) c.self.view_is
    (lends_job c.self.inside c.in-Some.no c.index.result.now c.at.result.now f c.in_ok-job.job c.put.new.slots.items
    e.job.numbered (f.lends c.in_ok-job.job e.job.numbered e.job.of_entry e.job.loan.of_plan e.job.loan.tables e.job.loan.rows) e.job.loan.of_plan c.put.ensures)
