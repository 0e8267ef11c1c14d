use Rattle.std.proofs.Common.{ap}
use Rattle.request_arena.specs.Chains.{holds}
use Rattle.test_layers.proofs.Firsts.{all_first_removed}
use Rattle.test_layers.proofs.request_queues.take.Goals as goal

pub remove-requires-clause-first : goal.remove-requires-clause-first
remove-requires-clause-first c = c.requires.first c.args.id (ap holds c.requires.live.1)

pub returns-clause-first : goal.returns-clause-first
returns-clause-first c = all_first_removed c.args.queues.now c.remove.new.self c.args.id c.remove.ensures.removed.gone c.remove.ensures.removed.firsts c.requires.first
