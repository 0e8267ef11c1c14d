use Rattle.test_layers.proofs.Firsts.{two_pushed}
use Rattle.test_layers.proofs.worked_queues.push_two.Goals as goal

pub returns-in-Ok-push_back : goal.returns-in-Ok-push_back
returns-in-Ok-push_back c =
    two_pushed c.args.queues.now c.push_back.new.self c.push_back-in-Ok.new.self 0 1 c.args.first c.args.second c.in-Ok.head c.in-Ok-push_back.field-0 c.in-Ok.ensures.pushed c.in-Ok-push_back.ensures.pushed
