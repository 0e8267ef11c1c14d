use Rattle.std.proofs.Common.{◌≡◌}
use Rattle.dispatcher.specs.Workers.{HoldsNoJob}
use Rattle.dispatcher.proofs.worker.WorkerTask.work.Given as goal

-- each job that was claimed is delivered
abbrev pub invariant-loop : goal.invariant-loop
invariant-loop g l = (l.seat.lanes ≡ l.lanes) × HoldsNoJob l.seat
