use Rattle.std.proofs.Common.{[], slice_get, slice_index_or, Some, sym, ap, ◌∙◌}
use Rattle.request_arena.specs.Lists.{Lists}
use Rattle.request_arena.specs.Nodes.{home_of}
use Rattle.request_arena.proofs.Linked.{live_of}
use Rattle.request_arena.proofs.Taking.{here_in}
use Rattle.request_arena.proofs.queues.Queues.queue_of.Goals as goal

pub get-requires : goal.get-requires
get-requires c =
    let i = c.self.inside in let x = c.id.inside.place in let there = ap (λ s. slice_get s.held x) c.self.view_is ∙ ap (slice_get c.args.self.now.held) c.id.view_is ∙ c.requires.1 in
    here_in i.block i.nodes i.queues i.vacant i.free c.self.invariant.0 x (live_of i.block i.nodes i.queues i.vacant i.free c.self.invariant.0 x c.requires.0 there)

pub returns : goal.returns
returns c q j at =
    let i = c.self.inside in let x = c.id.inside.place in
    sym (ap home_of c.get.ensures.is) ∙ c.self.invariant.2 q j x (ap (λ (l : Lists). slice_get (slice_index_or l.queues q []) j) c.self.view_is ∙ at ∙ ap Some (sym c.id.view_is))
