use Rattle.scheduler_core.proofs.MachineRuns.{every_run}
use Rattle.scheduler_core.proofs.laws.every_run_is_serial.Goals as goal

pub returns : goal.returns
returns c = every_run (record {
  frame = c.stays_in_footprint.ensures;
  locked = c.locked_rows_conflict.ensures;
  turned = c.clashes_are_either_way.ensures;
  ready = c.ready_apart.ensures;
})
