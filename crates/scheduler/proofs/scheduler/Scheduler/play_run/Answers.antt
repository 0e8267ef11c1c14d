use Rattle.std.proofs.Common.{◌≡◌, List, Some, None, slice_set, refl, sym, ap, ◌∙◌, subst, arith}
use Rattle.scheduler.specs.JobRuns.{JobOf}
use Rattle.scheduler.specs.declared.slot.Slot.{Slot}
use Rattle.scheduler.specs.declared.slot.Slot.TheVariants.{Lent, Held, Ran}
use Rattle.scheduler.specs.Schedules.{Schedule, phases_of}
use Rattle.scheduler.proofs.Known.{known, work_in, still_keeps}
use Rattle.scheduler.proofs.Places.{put_back, set_back}
use Rattle.scheduler.proofs.Making.{with_plans, after_put}
use Rattle.scheduler.proofs.Returns.{comes_of, runs, stays_lent}
use Rattle.scheduler.proofs.Played.{answers_run, refuses_run, same_phases}
use Rattle.scheduler.proofs.scheduler.Scheduler.play_run.Goals.{After-put, After-put-in-None}
use Rattle.scheduler.proofs.scheduler.Scheduler.play_run.Goals as goal

pub returns-in_default-take_held-clause-answer : goal.returns-in_default-take_held-clause-answer
returns-in_default-take_held-clause-answer c =
    let k = known c.self.inside c.self.invariant c.rows_are_serial.ensures c.admitted_and_unsettled_wait.ensures in
    refuses_run c.self.inside k c.args.self.now c.self.view_is c.events_by_places.ensures c.args.no c.in-Some.place c.in-Some.ensures.some.0 c.take_held.new.slots.items c.requires
    (c.in_default-take_held.ensures.none refl) (c.in_default-take_held.ensures.same refl)

-- what stands there afterwards: a job that was run, or one that could not be run
ran_there : (c : After-put) → c.put.new.slots.items ≡ slice_set c.self.inside.slots.items c.in-Some.place (Ran c.into_parts-job.result.0 c.in-Some-outcome.outcome)
ran_there c = put_back c.self.inside.slots.items c.take_held.new.slots.items c.put.new.slots.items c.in-Some.place Lent (Ran c.into_parts-job.result.0 c.in-Some-outcome.outcome) c.in-Some-take_held.ensures.taken c.put.ensures

held_there : (c : After-put-in-None) → c.put-in-None.new.slots.items ≡ slice_set c.self.inside.slots.items c.in-Some.place (Held c.into_parts-job.result.0)
held_there c = put_back c.self.inside.slots.items c.take_held.new.slots.items c.put-in-None.new.slots.items c.in-Some.place Lent (Held c.into_parts-job.result.0) c.in-Some-take_held.ensures.taken c.put-in-None.ensures

is_same : (c : After-put-in-None) → c.into_parts-job.result.0 ≡ c.in-Some-take_held.job
is_same c = comes_of c.in-Some-take_held.job c.run_job.result c.into_parts-job.result.0 c.into_parts-job.result.1 None c.run_job.ensures c.into_parts-job.ensures.job c.into_parts-job.ensures.outcome c.in-None.is

pub invariant_of-self-in-Some-outcome : goal.invariant_of-self-in-Some-outcome
invariant_of-self-in-Some-outcome c =
    let k = known c.self.inside c.self.invariant c.rows_are_serial.ensures c.admitted_and_unsettled_wait.ensures in
    let job = c.into_parts-job.result.0 in
    let comes = comes_of c.in-Some-take_held.job c.run_job.result job c.into_parts-job.result.1 (Some c.in-Some-outcome.outcome) c.run_job.ensures c.into_parts-job.ensures.job c.into_parts-job.ensures.outcome c.in-Some-outcome.is in
    with_plans (work_in c.self.inside) c.put.new.slots.items c.self.inside.settled c.self.inside.plans.from c.self.inside.plans.made.items c.self.inside.store c.self.inside.locks
    (runs c.self.inside k c.in-Some.place c.in-Some-take_held.job job c.put.new.slots.items c.in-Some-take_held.ensures.was c.in-Some-outcome.outcome comes (ran_there c))
    (after_put (work_in c.self.inside) c.self.inside.slots.items c.put.new.slots.items c.in-Some.place (Ran c.into_parts-job.result.0 c.in-Some-outcome.outcome) c.self.inside.settled c.self.inside.settled c.self.inside.plans.from c.self.inside.plans.made.items (ran_there c) (omega arith) c.self.invariant.3)

pub invariant_of-self-in-None : goal.invariant_of-self-in-None
invariant_of-self-in-None c =
    let k = known c.self.inside c.self.invariant c.rows_are_serial.ensures c.admitted_and_unsettled_wait.ensures in
    with_plans (work_in c.self.inside) c.put-in-None.new.slots.items c.self.inside.settled c.self.inside.plans.from c.self.inside.plans.made.items c.self.inside.store c.self.inside.locks
    (stays_lent c.self.inside k c.in-Some.place c.in-Some-take_held.job c.into_parts-job.result.0 c.put-in-None.new.slots.items c.in-Some-take_held.ensures.was (is_same c) (held_there c))
    (after_put (work_in c.self.inside) c.self.inside.slots.items c.put-in-None.new.slots.items c.in-Some.place (Held c.into_parts-job.result.0) c.self.inside.settled c.self.inside.settled c.self.inside.plans.from c.self.inside.plans.made.items (held_there c) (omega arith) c.self.invariant.3)

pub returns-in-Some-outcome-clause-answer : goal.returns-in-Some-outcome-clause-answer
returns-in-Some-outcome-clause-answer c =
    let k = known c.self.inside c.self.invariant c.rows_are_serial.ensures c.admitted_and_unsettled_wait.ensures in
    answers_run c.self.inside k c.args.self.now c.self.view_is c.events_by_places.ensures c.args.no c.in-Some.place c.in-Some.ensures.some.0 c.put.new.slots.items
    c.in-Some-take_held.job c.into_parts-job.result.0 c.in-Some-outcome.outcome c.in-Some-take_held.ensures.was (ran_there c)

pub returns-in-Some-outcome-clause-keeps : goal.returns-in-Some-outcome-clause-keeps
returns-in-Some-outcome-clause-keeps c =
    still_keeps c.self.inside c.args.self.now c.self.view_is c.requires c.in-Some.place (Ran c.into_parts-job.result.0 c.in-Some-outcome.outcome) c.put.new.slots.items (λ e. cc) (ran_there c)

pub returns-in-None-clause-answer : goal.returns-in-None-clause-answer
returns-in-None-clause-answer c =
    same_phases c.self.inside.slots.items c.put-in-None.new.slots.items c.in-Some.place (Held c.in-Some-take_held.job) (Held c.into_parts-job.result.0) c.in-Some-take_held.ensures.was refl (held_there c)
    ∙ ap phases_of c.self.view_is

pub returns-in-None-clause-keeps : goal.returns-in-None-clause-keeps
returns-in-None-clause-keeps c =
    still_keeps c.self.inside c.args.self.now c.self.view_is c.requires c.in-Some.place (Held c.into_parts-job.result.0) c.put-in-None.new.slots.items (λ e. cc) (held_there c)

pub returns-in-None-clause-same : goal.returns-in-None-clause-same
returns-in-None-clause-same c = λ _.
    let back : c.put-in-None.new.slots.items ≡ c.self.inside.slots.items =
    held_there c ∙ ap (λ (j : JobOf). slice_set c.self.inside.slots.items c.in-Some.place (Held j)) (is_same c)
    ∙ set_back c.self.inside.slots.items c.in-Some.place (Held c.in-Some-take_held.job) c.in-Some-take_held.ensures.was in
    subst (λ (xs : List Slot). ◌≡◌ {A = Schedule} (record { work = work_in c.self.inside; slots = xs }) c.args.self.now) (sym back) c.self.view_is
