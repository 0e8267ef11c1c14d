use Rattle.scheduler_core.proofs.RunOnShown.{run_on_shown}
use Rattle.scheduler_core.proofs.laws.run_on_shown_rows_is_run.Goals as goal

pub returns : goal.returns
returns c = run_on_shown c.stays_in_footprint.ensures
