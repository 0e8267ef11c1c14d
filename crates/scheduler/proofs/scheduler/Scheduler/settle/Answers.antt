use Rattle.std.proofs.Common.{◌≡◌, ◌-◌, true, List, map, ◌∙◌, subst, arith}
use Rattle.scheduler_core.specs.declared.event.Event.TheVariants.{Lend}
use Rattle.scheduler_core.specs.Events.{enabled}
use Rattle.scheduler.specs.declared.slot.Slot.{Slot}
use Rattle.scheduler.specs.declared.slot.Slot.TheVariants.{Idle, Lent, Settled}
use Rattle.scheduler.specs.Jobs.{IsLentAt, IsRunAt}
use Rattle.scheduler.specs.Schedules.{log_of, phase_in}
use Rattle.scheduler.specs.Scheduled.{AreSettledBefore}
use Rattle.scheduler.proofs.Known.{known, work_in}
use Rattle.scheduler.proofs.Making.{with_plans, after_put}
use Rattle.scheduler.proofs.Returns.{Return, returns_run, returns_lent}
use Rattle.scheduler.proofs.scheduler.Scheduler.settle.Goals.{In-Some, In-None}
use Rattle.scheduler.proofs.scheduler.Scheduler.settle.Goals as goal

-- a job that comes back run
run : (c : In-Some)
    → IsRunAt (work_in c.self.inside) (c.no-no.result - c.self.inside.first) c.into_parts-job.result.0 c.in-Some.outcome × Return c.self.inside c.no-no.result (c.no-no.result - c.self.inside.first) Lent c.into_parts-job.result.0
run c =
    let k = known c.self.inside c.self.invariant c.rows_are_serial.ensures c.admitted_and_unsettled_wait.ensures in
    returns_run c.self.inside k c.args.self.now c.self.view_is c.args.done c.requires c.no-no.result c.into_parts-job.result.0 c.into_parts-job.result.1
    c.no-no.ensures c.into_parts-job.ensures.job c.into_parts-job.ensures.outcome c.in-Some.outcome c.in-Some.is

-- and one that is given back
given : (c : In-None)
    → IsLentAt (work_in c.self.inside) (c.no-no.result - c.self.inside.first) c.into_parts-job.result.0 × Return c.self.inside c.no-no.result (c.no-no.result - c.self.inside.first) Lent c.into_parts-job.result.0
given c =
    let k = known c.self.inside c.self.invariant c.rows_are_serial.ensures c.admitted_and_unsettled_wait.ensures in
    returns_lent c.self.inside k c.args.self.now c.self.view_is c.args.done c.requires c.no-no.result c.into_parts-job.result.0 c.into_parts-job.result.1
    c.no-no.ensures c.into_parts-job.ensures.job c.into_parts-job.ensures.outcome c.in-None.is

pub give_back-requires-clause-lent : goal.give_back-requires-clause-lent
give_back-requires-clause-lent c = (run (goal.at.give_back-requires-clause-lent c).In-Some).1.lent

pub give_back-requires-clause-there : goal.give_back-requires-clause-there
give_back-requires-clause-there c = (run (goal.at.give_back-requires-clause-there c).In-Some).1.there

pub put-requires : goal.put-requires
put-requires c = (run (goal.at.put-requires c).In-Some).1.within

pub count_settled-self-inside-requires-clause-before : goal.count_settled-self-inside-requires-clause-before
count_settled-self-inside-requires-clause-before c =
    (run (goal.at.count_settled-self-inside-requires-clause-before c).In-Some).1.before c.in-Some.outcome _ (c.deref.ensures.value ∙ c.put.ensures)

pub invariant_of-self : goal.invariant_of-self
invariant_of-self c =
    let r = run (goal.at.invariant_of-self c).In-Some in (
      c.self.invariant.0,
      r.1.settles c.in-Some.outcome r.0 c.put.new.slots.items c.give_back.new.store c.give_back.new.locks c.put.ensures
          c.give_back.ensures.tables c.give_back.ensures.rows c.give_back.ensures.lent c.give_back.ensures.released,
      subst (λ (slots : List Slot). AreSettledBefore slots c.count_settled-self-inside.result) c.deref.ensures.value
          (record { before = c.count_settled-self-inside.ensures.before; next = c.count_settled-self-inside.ensures.next; within = c.count_settled-self-inside.ensures.within }),
      after_put (work_in c.self.inside) c.self.inside.slots.items c.put.new.slots.items (c.no-no.result - c.self.inside.first) (Settled c.in-Some.outcome) c.self.inside.settled c.count_settled-self-inside.result c.self.inside.plans.from c.self.inside.plans.made.items c.put.ensures c.count_settled-self-inside.ensures.known c.self.invariant.3,
    )

pub take_back-requires-clause-lent : goal.take_back-requires-clause-lent
take_back-requires-clause-lent c = (given (goal.at.take_back-requires-clause-lent c).In-None).1.lent

pub take_back-requires-clause-there : goal.take_back-requires-clause-there
take_back-requires-clause-there c = (given (goal.at.take_back-requires-clause-there c).In-None).1.there

pub put-requires-in-None : goal.put-requires-in-None
put-requires-in-None c = (given (goal.at.put-requires-in-None c).In-None).1.within

pub invariant_of-self-in-None : goal.invariant_of-self-in-None
invariant_of-self-in-None c =
    let g = given (goal.at.invariant_of-self-in-None c).In-None in
    with_plans (work_in c.self.inside) c.put-in-None.new.slots.items c.self.inside.settled c.self.inside.plans.from c.self.inside.plans.made.items c.take_back.new.store c.take_back.new.locks
    (g.1.takes_back g.0 c.put-in-None.new.slots.items c.take_back.new.store c.take_back.new.locks c.put-in-None.ensures
    c.take_back.ensures.tables c.take_back.ensures.rows c.take_back.ensures.lent c.take_back.ensures.unmarked)
    (after_put (work_in c.self.inside) c.self.inside.slots.items c.put-in-None.new.slots.items (c.no-no.result - c.self.inside.first) Idle c.self.inside.settled c.self.inside.settled c.self.inside.plans.from c.self.inside.plans.made.items c.put-in-None.ensures (omega arith) c.self.invariant.3)

pub returns-in-None-clause-ready : goal.returns-in-None-clause-ready
returns-in-None-clause-ready c = λ _.
    let r = (given (goal.at.returns-in-None-clause-ready c).In-None).1 in
    subst (λ n. enabled c.self.inside.arena c.self.inside.first (log_of (work_in c.self.inside)) (map phase_in c.put-in-None.new.slots.items) (Lend n) ≡ true) c.no-no.ensures
    (r.lent_again c.events_by_places.ensures c.put-in-None.new.slots.items c.put-in-None.ensures)
