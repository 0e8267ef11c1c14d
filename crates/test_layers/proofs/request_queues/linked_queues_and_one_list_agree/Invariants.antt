use Rattle.std.proofs.Common.{◌≡◌, length}
use Rattle.test_layers.specs.Firsts.{AllFirst}
use Rattle.test_layers.proofs.request_queues.linked_queues_and_one_list_agree.Given as goal

-- each node is the first of its chain, and there are three queues
abbrev pub invariant-loop-no : goal.invariant-loop-no
invariant-loop-no g l = record {
  first : AllFirst l.queues;
  many : length l.queues.queues ≡ 3;
}
