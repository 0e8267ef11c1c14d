use Rattle.test_layers.proofs.Firsts.{live_some}
use Rattle.test_layers.proofs.request_queues.node_at.Goals as goal

pub loop-init : goal.loop-init
loop-init c = c.first-at.ensures.live

pub next-at-requires : goal.next-at-requires
next-at-requires c = live_some c.args.queues.now c.loop.at c.in-Some.id c.loop.invariant c.in-Some.is

pub loop-preserved : goal.loop-preserved
loop-preserved c = c.next-at.ensures.live

pub returns : goal.returns
returns c = c.loop.invariant
