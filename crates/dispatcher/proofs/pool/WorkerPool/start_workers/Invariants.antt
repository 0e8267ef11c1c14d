use Rattle.std.proofs.Common.{◌≡◌, ◌-◌}
use Rattle.lanes.specs.Seats.{jobs_in}
use Rattle.dispatcher.proofs.pool.WorkerPool.start_workers.Given as goal

-- no job is out
abbrev pub invariant-workers : goal.invariant-workers
invariant-workers g l = jobs_in l.self.dispatcher.jobs ≡ 0

abbrev pub decreases-workers : goal.decreases-workers
decreases-workers g l = l.wanted - l.self.started
