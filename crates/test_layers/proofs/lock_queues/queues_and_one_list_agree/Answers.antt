use Rattle.std.proofs.Common.{◌+◌}
use Rattle.test_layers.proofs.lock_queues.queues_and_one_list_agree.Goals as goal

pub steps-preserved : goal.steps-preserved
steps-preserved g c = c.change_next.ensures (c.steps.no + 1) (c.change.ensures (c.steps.no + 1) c.in_ok-add.ensures)
