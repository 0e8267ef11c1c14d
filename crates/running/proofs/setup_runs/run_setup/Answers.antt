use Rattle.std.proofs.Common.{refl}
use Rattle.running.specs.EngineRuns.{engine_on}
use Rattle.running.proofs.EngineRuns.{nothing_done}
use Rattle.running.proofs.setup_runs.run_setup.Goals as goal

pub run_engine-ended-requires-clause-fresh : goal.run_engine-ended-requires-clause-fresh
run_engine-ended-requires-clause-fresh g c = λ κs bounds. rw c.in-Ok.ensures.made (refl, refl)

pub returns-in-Ok-clause-run : goal.returns-in-Ok-clause-run
returns-in-Ok-clause-run g c = (_, rw c.in-Ok.ensures.made at c.run_engine-ended.ensures.run)

pub returns-in-Err-clause-run : goal.returns-in-Err-clause-run
returns-in-Err-clause-run g c = (engine_on c.args.document.setup c.args.options.now.settings, nothing_done _ _ _ _ _ _ _ _ _ c.no_memory.ensures)

pub returns-in-Err-clause-threadless : goal.returns-in-Err-clause-threadless
returns-in-Err-clause-threadless g c = λ _. rw c.no_memory.ensures tt
