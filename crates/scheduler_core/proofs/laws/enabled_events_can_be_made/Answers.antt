use Rattle.scheduler_core.proofs.CanBeMade.{can_be_made}
use Rattle.scheduler_core.proofs.laws.enabled_events_can_be_made.Goals as goal

pub returns : goal.returns
returns c = can_be_made (record {
  frame = c.stays_in_footprint.ensures;
  locked = c.locked_rows_conflict.ensures;
  turned = c.clashes_are_either_way.ensures;
  ready = c.ready_apart.ensures;
})
