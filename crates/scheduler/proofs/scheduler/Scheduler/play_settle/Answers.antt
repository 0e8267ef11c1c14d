use Rattle.std.proofs.Common.{◌≡◌, List, slice_set, refl, ◌∙◌, subst}
use Rattle.scheduler.specs.declared.slot.Slot.{Slot}
use Rattle.scheduler.specs.declared.slot.Slot.TheVariants.{Lent, Ran, Settled}
use Rattle.scheduler.specs.Scheduled.{AreSettledBefore}
use Rattle.scheduler.proofs.Known.{known, work_in, number_at, still_keeps}
use Rattle.scheduler.proofs.Making.{after_put}
use Rattle.scheduler.proofs.Places.{put_back}
use Rattle.scheduler.proofs.Returns.{Return, return}
use Rattle.scheduler.proofs.Played.{answers_settle}
use Rattle.scheduler.proofs.scheduler.Scheduler.play_settle.Goals.{In-Some-take_run, After-put}
use Rattle.scheduler.proofs.scheduler.Scheduler.play_settle.Goals as goal

-- the job that stands there gives its rows back
returned : (c : In-Some-take_run) → Return c.self.inside c.args.no c.in-Some.place (Ran c.in-Some-take_run.job c.in-Some-take_run.outcome) c.in-Some-take_run.job
returned c =
    let k = known c.self.inside c.self.invariant c.rows_are_serial.ensures c.admitted_and_unsettled_wait.ensures in
    let old = Ran c.in-Some-take_run.job c.in-Some-take_run.outcome in
    return c.self.inside k c.args.no c.in-Some.place (number_at c.self.inside c.args.self.now c.self.view_is c.args.no c.in-Some.place c.in-Some.ensures.some.0)
    old c.in-Some-take_run.ensures.was refl refl c.in-Some-take_run.job (c.self.invariant.1.kept c.in-Some.place old c.in-Some-take_run.ensures.was).job_at

-- what stands there afterwards
settled_there : (c : After-put) → c.put.new.slots.items ≡ slice_set c.self.inside.slots.items c.in-Some.place (Settled c.in-Some-take_run.outcome)
settled_there c = put_back c.self.inside.slots.items c.take_run.new.slots.items c.put.new.slots.items c.in-Some.place Lent (Settled c.in-Some-take_run.outcome) c.in-Some-take_run.ensures.taken c.put.ensures

pub give_back-requires-clause-lent : goal.give_back-requires-clause-lent
give_back-requires-clause-lent c = (returned (goal.at.give_back-requires-clause-lent c).In-Some-take_run).lent

pub give_back-requires-clause-there : goal.give_back-requires-clause-there
give_back-requires-clause-there c = (returned (goal.at.give_back-requires-clause-there c).In-Some-take_run).there

pub give_back-requires-clause-tables : goal.give_back-requires-clause-tables
give_back-requires-clause-tables c = (returned (goal.at.give_back-requires-clause-tables c).In-Some-take_run).tables

pub count_settled-self-inside-requires-clause-before : goal.count_settled-self-inside-requires-clause-before
count_settled-self-inside-requires-clause-before c =
    (returned (goal.at.count_settled-self-inside-requires-clause-before c).In-Some-take_run).before c.in-Some-take_run.outcome _ (c.deref.ensures.value ∙ settled_there (goal.at.count_settled-self-inside-requires-clause-before c).After-put)

pub invariant_of-self-2 : goal.invariant_of-self-2
invariant_of-self-2 c = (
  c.self.invariant.0,
  (returned (goal.at.invariant_of-self-2 c).In-Some-take_run).settles c.in-Some-take_run.outcome
      (c.self.invariant.1.kept c.in-Some.place (Ran c.in-Some-take_run.job c.in-Some-take_run.outcome) c.in-Some-take_run.ensures.was) c.put.new.slots.items c.give_back.new.store c.give_back.new.locks
      (settled_there (goal.at.invariant_of-self-2 c).After-put) c.give_back.ensures.tables c.give_back.ensures.rows c.give_back.ensures.lent c.give_back.ensures.released,
  subst (λ (xs : List Slot). AreSettledBefore xs c.count_settled-self-inside.result) c.deref.ensures.value
      (record { before = c.count_settled-self-inside.ensures.before; next = c.count_settled-self-inside.ensures.next; within = c.count_settled-self-inside.ensures.within }),
  after_put (work_in c.self.inside) c.self.inside.slots.items c.put.new.slots.items c.in-Some.place (Settled c.in-Some-take_run.outcome) c.self.inside.settled c.count_settled-self-inside.result c.self.inside.plans.from c.self.inside.plans.made.items (settled_there (goal.at.invariant_of-self-2 c).After-put) c.count_settled-self-inside.ensures.known c.self.invariant.3,
)

pub returns-clause-answer : goal.returns-clause-answer
returns-clause-answer c =
    let k = known c.self.inside c.self.invariant c.rows_are_serial.ensures c.admitted_and_unsettled_wait.ensures in
    answers_settle c.self.inside k c.args.self.now c.self.view_is c.events_by_places.ensures c.args.no c.in-Some.place c.in-Some.ensures.some.0 c.put.new.slots.items
    c.in-Some-take_run.job c.in-Some-take_run.outcome c.in-Some-take_run.ensures.was (settled_there (goal.at.returns-clause-answer c).After-put)

pub returns-clause-keeps : goal.returns-clause-keeps
returns-clause-keeps c =
    still_keeps c.self.inside c.args.self.now c.self.view_is c.requires c.in-Some.place (Settled c.in-Some-take_run.outcome) c.put.new.slots.items (λ e. cc)
    (settled_there (goal.at.returns-clause-keeps c).After-put)
