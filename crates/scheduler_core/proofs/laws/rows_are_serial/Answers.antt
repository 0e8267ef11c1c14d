use Rattle.scheduler_core.proofs.Rows.{stays_sound}
use Rattle.scheduler_core.proofs.laws.rows_are_serial.Goals as goal

pub returns : goal.returns
returns c = stays_sound (record {
  frame = c.stays_in_footprint.ensures;
  locked = c.locked_rows_conflict.ensures;
  turned = c.clashes_are_either_way.ensures;
  ready = c.ready_apart.ensures;
})
