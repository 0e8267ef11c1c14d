use Rattle.std.proofs.Common.{Option, subst}
use Rattle.scheduler.specs.JobRuns.{JobOf}
use Rattle.scheduler.specs.Jobs.{LendsTo}
use Rattle.test_scheduling_and_devices.proofs.plays.settle_next.Goals as goal

pub settle-requires : goal.settle-requires
settle-requires c = c.lent_jobs_come_back.ensures c.args.scheduler.now c.lend.new.self c.in-Some.job c.run_job-done.result (subst (λ (f : Option JobOf). LendsTo c.args.scheduler.now f c.lend.new.self) c.in-Some.is c.in_ok-job.ensures.lent) c.run_job-done.ensures
