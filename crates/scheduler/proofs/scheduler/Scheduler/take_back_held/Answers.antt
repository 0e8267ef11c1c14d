use Rattle.std.proofs.Common.{◌≡◌, ◌+◌, length, length-set, map, slice_set, refl, ap, ◌∙◌, arith}
use Rattle.scheduler.specs.declared.slot.Slot.TheVariants.{Idle, Lent, Held}
use Rattle.scheduler_core.specs.declared.phase.Phase.TheVariants as phase
use Rattle.scheduler.specs.Schedules.{Schedule, phases_of, phase_in}
use Rattle.scheduler.proofs.Known.{known, work_in, still_keeps}
use Rattle.scheduler.proofs.Making.{with_plans, after_put}
use Rattle.scheduler.proofs.Places.{put_back, map_set}
use Rattle.scheduler.proofs.Returns.{Return, return}
use Rattle.scheduler.proofs.scheduler.Scheduler.take_back_held.Goals.{In-Some, After-put}
use Rattle.scheduler.proofs.scheduler.Scheduler.take_back_held.Goals as goal

-- the job that stands there gives its rows back
returned : (c : In-Some) → Return c.self.inside (c.self.inside.first + c.args.place) c.args.place (Held c.in-Some.job) c.in-Some.job
returned c =
    let k = known c.self.inside c.self.invariant c.rows_are_serial.ensures c.admitted_and_unsettled_wait.ensures in
    return c.self.inside k (c.self.inside.first + c.args.place) c.args.place refl (Held c.in-Some.job) c.in-Some.ensures.was refl refl c.in-Some.job
    (c.self.invariant.1.kept c.args.place (Held c.in-Some.job) c.in-Some.ensures.was).job_at

-- what stands there afterwards
idle_there : (c : After-put) → c.put.new.slots.items ≡ slice_set c.self.inside.slots.items c.args.place Idle
idle_there c = put_back c.self.inside.slots.items c.take_held.new.slots.items c.put.new.slots.items c.args.place Lent Idle c.in-Some.ensures.taken c.put.ensures

pub take_back-requires-clause-lent : goal.take_back-requires-clause-lent
take_back-requires-clause-lent c = (returned (goal.at.take_back-requires-clause-lent c).In-Some).lent

pub take_back-requires-clause-there : goal.take_back-requires-clause-there
take_back-requires-clause-there c = (returned (goal.at.take_back-requires-clause-there c).In-Some).there

pub take_back-requires-clause-tables : goal.take_back-requires-clause-tables
take_back-requires-clause-tables c = (returned (goal.at.take_back-requires-clause-tables c).In-Some).tables

pub put-requires : goal.put-requires
put-requires c =
    let l = (returned (goal.at.put-requires c).In-Some).within in
    let e : length (slice_set c.self.inside.slots.items c.args.place Lent) ≡ length c.self.inside.slots.items = length-set c.self.inside.slots.items c.args.place Lent in
    let t : length c.take_held.new.slots.items ≡ length (slice_set c.self.inside.slots.items c.args.place Lent) = ap length c.in-Some.ensures.taken in
    omega (arith, l, e, t)

pub invariant_of-self : goal.invariant_of-self
invariant_of-self c =
    with_plans (work_in c.self.inside) c.put.new.slots.items c.self.inside.settled c.self.inside.plans.from c.self.inside.plans.made.items c.take_back.new.store c.take_back.new.locks
    ((returned (goal.at.invariant_of-self c).In-Some).takes_back (c.self.invariant.1.kept c.args.place (Held c.in-Some.job) c.in-Some.ensures.was)
    c.put.new.slots.items c.take_back.new.store c.take_back.new.locks (idle_there c) c.take_back.ensures.tables c.take_back.ensures.rows c.take_back.ensures.lent c.take_back.ensures.unmarked)
    (after_put (work_in c.self.inside) c.self.inside.slots.items c.put.new.slots.items c.args.place Idle c.self.inside.settled c.self.inside.settled c.self.inside.plans.from c.self.inside.plans.made.items (idle_there c) (omega arith) c.self.invariant.3)

pub returns-in-Some-clause-held : goal.returns-in-Some-clause-held
returns-in-Some-clause-held c job at =
    ap (map phase_in) (idle_there c) ∙ map_set phase_in c.self.inside.slots.items c.args.place Idle ∙ ap (λ (s : Schedule). slice_set (phases_of s) c.args.place phase.Idle) c.self.view_is

pub returns-in-Some-clause-keeps : goal.returns-in-Some-clause-keeps
returns-in-Some-clause-keeps c = still_keeps c.self.inside c.args.self.now c.self.view_is c.requires c.args.place Idle c.put.new.slots.items (λ e. cc) (idle_there c)
