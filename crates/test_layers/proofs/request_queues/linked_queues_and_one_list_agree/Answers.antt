use Rattle.std.proofs.Common.{length, ap}
use Rattle.request_arena.specs.Lists.{Lists}
use Rattle.test_layers.proofs.Firsts.{all_first_blank}
use Rattle.test_layers.proofs.request_queues.linked_queues_and_one_list_agree.Goals as goal

pub loop-no-init : goal.loop-no-init
loop-no-init g c =
    let made = c.in_ok-queues.ensures in
    record {
      first = all_first_blank 40 3 made;
      many = ap (λ (l : Lists). length l.queues) made;
    }
