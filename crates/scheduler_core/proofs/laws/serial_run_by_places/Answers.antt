use Rattle.scheduler_core.proofs.SerialRun.{run_by_places}
use Rattle.scheduler_core.proofs.laws.serial_run_by_places.Goals as goal

pub returns : goal.returns
returns c = run_by_places
