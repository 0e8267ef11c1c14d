use Rattle.std.proofs.Common.{slice_get, Some, sym, ap, ◌∙◌}
use Rattle.request_arena.proofs.Nodes.{held_read, some_is}
use Rattle.request_arena.proofs.Linked.{live_of}
use Rattle.request_arena.proofs.Taking.{here_in}
use Rattle.request_arena.proofs.queues.Queues.get.Goals as goal

pub get-requires : goal.get-requires
get-requires c =
    let i = c.self.inside in let x = c.id.inside.place in let there = ap (λ s. slice_get s.held x) c.self.view_is ∙ ap (slice_get c.args.self.now.held) c.id.view_is ∙ c.requires.1 in
    here_in i.block i.nodes i.queues i.vacant i.free c.self.invariant.0 x (live_of i.block i.nodes i.queues i.vacant i.free c.self.invariant.0 x c.requires.0 there)

pub content-requires : goal.content-requires
content-requires c =
    let i = c.self.inside in let x = c.id.inside.place in let there = ap (λ s. slice_get s.held x) c.self.view_is ∙ ap (slice_get c.args.self.now.held) c.id.view_is ∙ c.requires.1 in
    some_is c.get.result.held c.requires.0 (held_read i.nodes i.block x c.requires.0 c.get.result there c.get.ensures.is)

pub returns : goal.returns
returns c =
    let i = c.self.inside in let x = c.id.inside.place in let there = ap (λ s. slice_get s.held x) c.self.view_is ∙ ap (slice_get c.args.self.now.held) c.id.view_is ∙ c.requires.1 in
    (c.content.result.successor, c.requires.1 ∙ ap Some (sym (held_read i.nodes i.block x c.requires.0 c.get.result there c.get.ensures.is) ∙ c.content.ensures))
