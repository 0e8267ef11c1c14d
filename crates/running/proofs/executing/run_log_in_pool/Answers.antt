use Rattle.running.proofs.EngineRuns.{nothing_done}
use Rattle.running.proofs.executing.run_log_in_pool.Goals as goal

pub returns-in-Err : goal.returns-in-Err
returns-in-Err g c = nothing_done _ _ _ _ _ _ _ _ _ c.no_memory.ensures
