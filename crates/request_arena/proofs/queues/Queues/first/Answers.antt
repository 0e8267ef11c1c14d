use Rattle.std.proofs.Common.{inr, subst, ◌≡◌, ◌<◌, ◌≤◌, ◌+◌, [], slice_get, slice_index_or, Some, sym, ap, ◌∙◌, arith}
use Rattle.request_arena.specs.Linked.{queue_of, held_in}
use Rattle.request_arena.specs.Walks.{Used}
use Rattle.request_arena.specs.Lists.{Lists, IsLive}
use Rattle.request_arena.specs.Nodes.{next, live, next_of}
use Rattle.request_arena.proofs.Linked.{queue_is}
use Rattle.request_arena.proofs.Spread.{queue_in, spread_at}
use Rattle.request_arena.proofs.Neighbours.{first_of_walk}
use Rattle.request_arena.specs.declared.node.Held.{Held}
use Rattle.request_arena.proofs.Standing.{next_is_live}
use Rattle.request_arena.proofs.queues.Queues.first.Goals as goal

pub overflow_add-self-inside : goal.overflow_add-self-inside
overflow_add-self-inside c =
    let i = c.self.inside in let q = c.args.queue in let s = i.nodes + q in
    let in_range : q < i.queues = queue_in i.block i.nodes i.queues q c.args.self.now c.self.view_is c.requires in
    omega (arith, in_range, c.self.invariant.0.fits)

pub get-place-requires : goal.get-place-requires
get-place-requires c =
    let i = c.self.inside in let q = c.args.queue in let s = i.nodes + q in
    let in_range : q < i.queues = queue_in i.block i.nodes i.queues q c.args.self.now c.self.view_is c.requires in
    omega (arith, in_range, c.self.invariant.0.long)

pub returns-then-place-self-clause-node : goal.returns-then-place-self-clause-node
returns-then-place-self-clause-node c =
    let i = c.self.inside in let q = c.args.queue in let s = i.nodes + q in
    let in_range : q < i.queues = queue_in i.block i.nodes i.queues q c.args.self.now c.self.view_is c.requires in
    let far : i.nodes ≤ s = omega arith in let near : s < i.nodes + i.queues = omega (arith, in_range) in
    let w = first_of_walk (next i.block) (live i.block) i.nodes c.self.invariant.0.ring.low s far (queue_of i.block i.nodes s) (next i.block s)
    (queue_is i.block i.nodes i.queues i.vacant i.free c.self.invariant.0 s far near) in
    let list : slice_index_or c.args.self.now.queues q [] ≡ queue_of i.block i.nodes s =
    ap (λ (s : Lists). slice_index_or s.queues q []) (sym c.self.view_is) ∙ spread_at (queue_of i.block i.nodes) i.nodes i.queues q in_range in
    let place : next i.block s ≡ c.get-place.result.next = ap next_of c.get-place.ensures.is in
    sym (ap (λ l. slice_get l 0) list ∙ w.0 (omega (arith, place, c.if-place-self.true)) ∙ ap Some place)

pub returns-else-place-self-clause-node : goal.returns-else-place-self-clause-node
returns-else-place-self-clause-node c =
    let i = c.self.inside in let q = c.args.queue in let s = i.nodes + q in
    let in_range : q < i.queues = queue_in i.block i.nodes i.queues q c.args.self.now c.self.view_is c.requires in
    let far : i.nodes ≤ s = omega arith in let near : s < i.nodes + i.queues = omega (arith, in_range) in
    let w = first_of_walk (next i.block) (live i.block) i.nodes c.self.invariant.0.ring.low s far (queue_of i.block i.nodes s) (next i.block s)
    (queue_is i.block i.nodes i.queues i.vacant i.free c.self.invariant.0 s far near) in
    let list : slice_index_or c.args.self.now.queues q [] ≡ queue_of i.block i.nodes s =
    ap (λ (s : Lists). slice_index_or s.queues q []) (sym c.self.view_is) ∙ spread_at (queue_of i.block i.nodes) i.nodes i.queues q in_range in
    let place : next i.block s ≡ c.get-place.result.next = ap next_of c.get-place.ensures.is in
    sym (ap (λ l. slice_get l 0) list ∙ w.1 (omega (arith, place, c.if-place-self.false)))

pub returns-then-place-self-clause-live : goal.returns-then-place-self-clause-live
returns-then-place-self-clause-live c =
    let i = c.self.inside in let q = c.args.queue in let s = i.nodes + q in
    let in_range : q < i.queues = queue_in i.block i.nodes i.queues q c.args.self.now c.self.view_is c.requires in
    let used : Used i.nodes (i.nodes + i.queues) (live i.block) s = inr (omega arith, omega (arith, in_range)) in
    let place : next i.block s ≡ c.get-place.result.next = ap next_of c.get-place.ensures.is in
    subst (λ (l : Lists). IsLive l c.get-place.result.next) c.self.view_is
    (subst (λ n. (h : Held) × (slice_get (held_in i.nodes i.block) n ≡ Some (Some h))) place
    (next_is_live i.block i.nodes i.queues i.vacant i.free c.self.invariant.0 s used (omega (arith, place, c.if-place-self.true))))
