use Rattle.lock_tree.specs.Enqueues.{AreBelow}
use Rattle.test_layers.proofs.lock_queues.queues_and_one_list_agree.Given as goal

-- the next number is greater than all
abbrev pub invariant-steps : goal.invariant-steps
invariant-steps g l = AreBelow l.no l.tree.waiting
