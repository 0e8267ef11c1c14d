use Rattle.std.proofs.Common.{length, ap, arith}
use Rattle.request_arena.specs.Lists.{Lists}
use Rattle.request_arena.proofs.Nodes.{nodes_within}
use Rattle.request_arena.proofs.queues.Queues.nodes_are_few.Goals as goal

pub returns : goal.returns
returns c =
    let i = c.self.inside in let few = nodes_within i.nodes i.block in let fits = c.self.invariant.0.fits in let same = ap (λ (l : Lists). length l.held) c.self.view_is in
    omega (arith, few, fits, same)
