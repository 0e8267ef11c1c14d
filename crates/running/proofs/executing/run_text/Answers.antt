use Rattle.std.proofs.Common.{refl}
use Rattle.running.proofs.RunEnds.{nothing_run}
use Rattle.running.proofs.EngineRuns.{of_log}
use Rattle.running.proofs.executing.run_text.Goals as goal

pub run_log_in_pool-ended-requires-clause-fresh : goal.run_log_in_pool-ended-requires-clause-fresh
run_log_in_pool-ended-requires-clause-fresh g c = λ κs bounds. rw c.in-Ok.ensures.made (refl, refl)

pub returns-in-Err : goal.returns-in-Err
returns-in-Err g c = nothing_run c.in-Err.fault _ _ _ _ _ c.in-Err.ensures.refused

pub returns : goal.returns
returns g c = rw c.in-Ok.ensures.made at (of_log _ _ _ _ _ _ _ _ _ _ _ _ refl c.run_log_in_pool-ended.ensures)
