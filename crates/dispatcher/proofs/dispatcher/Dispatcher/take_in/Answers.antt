use Rattle.std.proofs.Common.{ℕ, ◌-◌, ◌≤◌, sym, ap, ◌∙◌, subst}
use Rattle.lanes.specs.Seats.{SchedulerSeatOf}
use Rattle.dispatcher.specs.Dispatched.{AreInLanes}
use Rattle.dispatcher.specs.Listeners.{AreOthersCounted}
use Rattle.dispatcher.proofs.InLanes.{comes_back, same_jobs, settled_by}
use Rattle.dispatcher.proofs.Further.{settled_further}
use Rattle.dispatcher.proofs.dispatcher.Dispatcher.take_in.Goals.{then-is_run, else-is_run}
use Rattle.dispatcher.proofs.dispatcher.Dispatcher.take_in.Goals as goal

pub settle-requires : goal.settle-requires
settle-requires g c =
    let s = c.args.scheduler.now in
    let h = subst (AreInLanes s) (sym c.self.view_is) c.requires.lanes in
    comes_back s c.self.inside.seat c.collect.new.seat h c.in-Some.field-0-0 c.in-Some.done c.in-Some.ensures.some

pub tell-requires-clause-number : goal.tell-requires-clause-number
tell-requires-clause-number g c =
    let s = c.args.scheduler.now in
    let h = subst (AreInLanes s) (sym c.self.view_is) c.requires.lanes in
    let stay = settled_by s c.settle.new.self c.self.inside.seat c.collect.new.seat h c.in-Some.field-0-0 c.in-Some.done c.in-Some.ensures.some
    c.in-Some.done.outcome c.settle.ensures.settled c.settle.ensures.back in
    subst (λ (n : ℕ). c.settle.new.self.work.first ≤ n) (sym c.no-no.ensures) stay.above

pub tell-requires-clause-others : goal.tell-requires-clause-others
tell-requires-clause-others g c =
    let s = c.args.scheduler.now in
    let h = subst (AreInLanes s) (sym c.self.view_is) c.requires.lanes in
    let stay = settled_by s c.settle.new.self c.self.inside.seat c.collect.new.seat h c.in-Some.field-0-0 c.in-Some.done c.in-Some.ensures.some
    c.in-Some.done.outcome c.settle.ensures.settled c.settle.ensures.back in
    subst (λ (n : ℕ). AreOthersCounted c.settle.new.self n (g.L.Listener.account c.args.listener.now)) (sym c.no-no.ensures)
    (stay.told (g.L.Listener.account c.args.listener.now) c.requires.told)

pub returns-in_default-clause-lanes : goal.returns-in_default-clause-lanes
returns-in_default-clause-lanes g c =
    let s = c.args.scheduler.now in
    let h = subst (AreInLanes s) (sym c.self.view_is) c.requires.lanes in
    let none = c.in_default.ensures.none in (
      ap (λ (t : SchedulerSeatOf). t.lanes) none.new_is ∙ ap (λ (t : SchedulerSeatOf). t.lanes) c.self.view_is,
      same_jobs s c.self.inside.seat c.collect.new.seat h none,
    )

pub returns-clause-runs : goal.returns-clause-runs
returns-clause-runs g c =
    let s = c.args.scheduler.now in
    let h = subst (AreInLanes s) (sym c.self.view_is) c.requires.lanes in
    let stay = settled_by s c.settle.new.self c.self.inside.seat c.collect.new.seat h c.in-Some.field-0-0 c.in-Some.done c.in-Some.ensures.some
    c.in-Some.done.outcome c.settle.ensures.settled c.settle.ensures.back in
    record { work = stay.work; settled = stay.settled; told = c.tell.ensures.told; onward = c.tell.ensures.onward }

pub returns-clause-lanes : goal.returns-clause-lanes
returns-clause-lanes g c =
    let s = c.args.scheduler.now in
    let h = subst (AreInLanes s) (sym c.self.view_is) c.requires.lanes in
    let stay = settled_by s c.settle.new.self c.self.inside.seat c.collect.new.seat h c.in-Some.field-0-0 c.in-Some.done c.in-Some.ensures.some
    c.in-Some.done.outcome c.settle.ensures.settled c.settle.ensures.back in
    (ap (λ (t : SchedulerSeatOf). t.lanes) c.in-Some.ensures.some.new_is ∙ ap (λ (t : SchedulerSeatOf). t.lanes) c.self.view_is, stay.lanes)

pub returns-clause-further : goal.returns-clause-further
returns-clause-further g c =
    let s = c.args.scheduler.now in
    let h = subst (AreInLanes s) (sym c.self.view_is) c.requires.lanes in
    let back = comes_back s c.self.inside.seat c.collect.new.seat h c.in-Some.field-0-0 c.in-Some.done c.in-Some.ensures.some in
    elim c.if-is_run.branch [
      | then-is_run w ↦ rw w.result-is (λ _. settled_further s c.settle.new.self (c.in-Some.done.job.no - s.work.first) c.in-Some.done.outcome back.out
          (sym c.is_run-is_run.ensures ∙ w.if-is_run.true) c.settle.ensures.settled)
      | else-is_run w ↦ rw w.result-is tt
    ]
