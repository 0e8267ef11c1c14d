use Rattle.std.proofs.Common.{◌≡◌, rules}
use Rattle.running.proofs.EngineRuns.{nothing_done}
use Rattle.running.proofs.setup_runs.run_on_workers.Goals as goal

pub returns-in_default-watcher : goal.returns-in_default-watcher
returns-in_default-watcher g c =
    let same : c.watcher.new.self.core ≡ c.args.engine.now.core = search rules in
    rw same (nothing_done _ _ _ _ _ _ _ _ _ c.no_memory.ensures)
