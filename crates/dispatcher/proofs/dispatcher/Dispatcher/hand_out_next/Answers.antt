use Rattle.std.proofs.Common.{ℕ, ◌-◌, sym, ap, ◌∙◌, subst}
use Rattle.scheduler.specs.Schedules.{Schedule}
use Rattle.lanes.specs.Seats.{SchedulerSeatOf}
use Rattle.dispatcher.specs.Dispatched.{AreInLanes}
use Rattle.dispatcher.specs.Listeners.{AreOthersCounted}
use Rattle.dispatcher.proofs.InLanes.{was_idle_at, lent_lanes, lent_settled, lent_counts}
use Rattle.dispatcher.proofs.InPlace.{lends_some, stays_by, stays_further}
use Rattle.dispatcher.proofs.Told.{same_counted}
use Rattle.dispatcher.proofs.Onward.{hears_nothing}
use Rattle.dispatcher.proofs.Further.{lent_further}
use Rattle.dispatcher.proofs.dispatcher.Dispatcher.hand_out_next.Goals as goal

pub settle-requires : goal.settle-requires
settle-requires g c =
    let s = c.args.scheduler.now in
    let lends = lends_some s c.lend.new.self _ c.in-Some.job c.in-Some.is c.in_ok-job.ensures.lent c.in_ok-job.ensures.least in
    c.lent_jobs_come_back.ensures s c.lend.new.self c.in-Some.job c.run_job-done.result lends.0 c.run_job-done.ensures

pub tell-requires-clause-others : goal.tell-requires-clause-others
tell-requires-clause-others g c =
    let s = c.args.scheduler.now in
    let lends = lends_some s c.lend.new.self _ c.in-Some.job c.in-Some.is c.in_ok-job.ensures.lent c.in_ok-job.ensures.least in
    let seat = c.self.inside.seat in
    let h = subst (AreInLanes s) (sym c.self.view_is) c.requires.lanes in
    let stay = stays_by s seat h c.in-Some.job c.lend.new.self lends.0 lends.1 c.run_job-done.result c.run_job-done.ensures
    c.settle.new.self c.run_job-done.result.outcome c.settle.ensures.settled c.settle.ensures.back in
    subst (λ (n : ℕ). AreOthersCounted c.settle.new.self n (g.L.Listener.account c.args.listener.now)) (sym c.no-no.ensures)
    (stay.told (g.L.Listener.account c.args.listener.now) c.requires.told)

pub returns-then-is_run-clause-runs : goal.returns-then-is_run-clause-runs
returns-then-is_run-clause-runs g c =
    let s = c.args.scheduler.now in
    let lends = lends_some s c.lend.new.self _ c.in-Some.job c.in-Some.is c.in_ok-job.ensures.lent c.in_ok-job.ensures.least in
    let seat = c.self.inside.seat in
    let h = subst (AreInLanes s) (sym c.self.view_is) c.requires.lanes in
    let stay = stays_by s seat h c.in-Some.job c.lend.new.self lends.0 lends.1 c.run_job-done.result c.run_job-done.ensures
    c.settle.new.self c.run_job-done.result.outcome c.settle.ensures.settled c.settle.ensures.back in
    record { work = stay.work; settled = stay.settled; told = c.tell.ensures.told; onward = c.tell.ensures.onward }

pub returns-else-is_run-clause-runs : goal.returns-else-is_run-clause-runs
returns-else-is_run-clause-runs g c =
    let s = c.args.scheduler.now in
    let lends = lends_some s c.lend.new.self _ c.in-Some.job c.in-Some.is c.in_ok-job.ensures.lent c.in_ok-job.ensures.least in
    let seat = c.self.inside.seat in
    let h = subst (AreInLanes s) (sym c.self.view_is) c.requires.lanes in
    let stay = stays_by s seat h c.in-Some.job c.lend.new.self lends.0 lends.1 c.run_job-done.result c.run_job-done.ensures
    c.settle.new.self c.run_job-done.result.outcome c.settle.ensures.settled c.settle.ensures.back in
    record { work = stay.work; settled = stay.settled; told = c.tell.ensures.told; onward = c.tell.ensures.onward }

pub returns-then-is_run-clause-lanes : goal.returns-then-is_run-clause-lanes
returns-then-is_run-clause-lanes g c =
    let s = c.args.scheduler.now in
    let lends = lends_some s c.lend.new.self _ c.in-Some.job c.in-Some.is c.in_ok-job.ensures.lent c.in_ok-job.ensures.least in
    let seat = c.self.inside.seat in
    let h = subst (AreInLanes s) (sym c.self.view_is) c.requires.lanes in
    let stay = stays_by s seat h c.in-Some.job c.lend.new.self lends.0 lends.1 c.run_job-done.result c.run_job-done.ensures
    c.settle.new.self c.run_job-done.result.outcome c.settle.ensures.settled c.settle.ensures.back in (
      ap (λ (t : SchedulerSeatOf). t.lanes) c.note_run.ensures ∙ ap (λ (t : SchedulerSeatOf). t.lanes) c.self.view_is,
      subst (AreInLanes c.settle.new.self) (sym c.note_run.ensures) stay.lanes,
    )

pub returns-else-is_run-clause-lanes : goal.returns-else-is_run-clause-lanes
returns-else-is_run-clause-lanes g c =
    let s = c.args.scheduler.now in
    let lends = lends_some s c.lend.new.self _ c.in-Some.job c.in-Some.is c.in_ok-job.ensures.lent c.in_ok-job.ensures.least in
    let seat = c.self.inside.seat in
    let h = subst (AreInLanes s) (sym c.self.view_is) c.requires.lanes in
    let stay = stays_by s seat h c.in-Some.job c.lend.new.self lends.0 lends.1 c.run_job-done.result c.run_job-done.ensures
    c.settle.new.self c.run_job-done.result.outcome c.settle.ensures.settled c.settle.ensures.back in (
      ap (λ (t : SchedulerSeatOf). t.lanes) c.note_run.ensures ∙ ap (λ (t : SchedulerSeatOf). t.lanes) c.self.view_is,
      subst (AreInLanes c.settle.new.self) (sym c.note_run.ensures) stay.lanes,
    )

pub returns-then-is_run-clause-further : goal.returns-then-is_run-clause-further
returns-then-is_run-clause-further g c =
    let s = c.args.scheduler.now in
    let lends = lends_some s c.lend.new.self _ c.in-Some.job c.in-Some.is c.in_ok-job.ensures.lent c.in_ok-job.ensures.least in
    let seat = c.self.inside.seat in
    let h = subst (AreInLanes s) (sym c.self.view_is) c.requires.lanes in
    λ _. stays_further s seat h c.in-Some.job c.lend.new.self lends.0 lends.1 c.run_job-done.result c.run_job-done.ensures
    c.settle.new.self c.run_job-done.result.outcome (sym c.is_run-is_run.ensures ∙ c.if-is_run.true) c.settle.ensures.settled

pub returns-clause-runs : goal.returns-clause-runs
returns-clause-runs g c =
    let s = c.args.scheduler.now in
    let lends = lends_some s c.lend.new.self _ c.in-Some.job c.in-Some.is c.in_ok-job.ensures.lent c.in_ok-job.ensures.least in
    let seat = c.self.inside.seat in
    let h = subst (AreInLanes s) (sym c.self.view_is) c.requires.lanes in
    let same = ap (λ (t : Schedule). t.work) lends.0.new_is in
    record {
      work = same;
      settled = lent_settled s seat h c.in-Some.job c.lend.new.self lends.0 lends.1 c.in-Ok.field-0 c.in-Ok.ensures.ok.0;
      told = same_counted s c.lend.new.self (g.L.Listener.account c.args.listener.now) same
          (lent_counts s seat h c.in-Some.job c.lend.new.self lends.0 lends.1 c.in-Ok.field-0 c.in-Ok.ensures.ok.0) c.requires.told;
      onward = hears_nothing (g.L.Listener.account c.args.listener.now);
    }

pub returns-clause-lanes : goal.returns-clause-lanes
returns-clause-lanes g c =
    let s = c.args.scheduler.now in
    let lends = lends_some s c.lend.new.self _ c.in-Some.job c.in-Some.is c.in_ok-job.ensures.lent c.in_ok-job.ensures.least in
    let seat = c.self.inside.seat in
    let h = subst (AreInLanes s) (sym c.self.view_is) c.requires.lanes in (
      ap (λ (t : SchedulerSeatOf). t.lanes) c.in-Ok.ensures.ok.1 ∙ ap (λ (t : SchedulerSeatOf). t.lanes) c.self.view_is,
      subst (AreInLanes c.lend.new.self) (sym c.in-Ok.ensures.ok.1)
          (lent_lanes s seat h c.in-Some.job c.lend.new.self lends.0 lends.1 c.in-Ok.field-0 c.in-Ok.ensures.ok.0),
    )

pub returns-clause-further : goal.returns-clause-further
returns-clause-further g c = λ _.
    let s = c.args.scheduler.now in
    let lends = lends_some s c.lend.new.self _ c.in-Some.job c.in-Some.is c.in_ok-job.ensures.lent c.in_ok-job.ensures.least in
    lent_further s c.lend.new.self (c.in-Some.job.no - s.work.first)
    (was_idle_at s c.lend.new.self c.in-Some.job lends.0 lends.1) lends.0.new_is
