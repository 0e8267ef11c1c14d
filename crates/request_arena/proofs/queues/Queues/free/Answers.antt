use Rattle.std.proofs.Common.{◌+◌, ap, sym, ◌∙◌}
use Rattle.request_arena.specs.Lists.{Lists, free_nodes, live_nodes}
use Rattle.request_arena.proofs.Nodes.{all_nodes}
use Rattle.request_arena.proofs.queues.Queues.free.Goals as goal

pub returns-clause-free : goal.returns-clause-free
returns-clause-free c = sym c.self.invariant.0.count ∙ ap (λ (l : Lists). free_nodes l.held) c.self.view_is

pub returns-clause-whole : goal.returns-clause-whole
returns-clause-whole c =
    let counted = sym c.self.invariant.0.count ∙ ap (λ (l : Lists). free_nodes l.held) c.self.view_is in
    ap (λ n. n + live_nodes c.args.self.now.held) counted ∙ all_nodes c.args.self.now.held
