use Rattle.std.proofs.Common.{[], ap, ◌∙◌, slice_get, slice_index_or, length, ◌<◌, sym, subst}
use Rattle.request_arena.proofs.Spread.{spread_long}
use Rattle.request_arena.specs.Linked.{queue_of}
use Rattle.request_arena.specs.Lists.{Lists, IsLive}
use Rattle.request_arena.proofs.Standing.{is_live, stand_apart, stands_somewhere}
use Rattle.request_arena.proofs.queues.Queues.nodes_stand_apart.Goals as goal

pub returns-clause-stand : goal.returns-clause-stand
returns-clause-stand c a is =
    let i = c.self.inside in
    let there = stands_somewhere i.block i.nodes i.queues i.vacant i.free c.self.invariant.0 a is.0 (ap (λ (l : Lists). slice_get l.held a) c.self.view_is ∙ is.1) in
    (there.0, there.1, (subst (λ n. there.0 < n) (sym (spread_long (queue_of i.block i.nodes) i.nodes i.queues) ∙ ap (λ (l : Lists). length l.queues) c.self.view_is) there.2.0, ap (λ (l : Lists). slice_get (slice_index_or l.queues there.0 []) there.1) (sym c.self.view_is) ∙ there.2.1))

pub returns-clause-live : goal.returns-clause-live
returns-clause-live c q j a at =
    let i = c.self.inside in
    subst (λ (l : Lists). IsLive l a) c.self.view_is
    (is_live i.block i.nodes i.queues i.vacant i.free c.self.invariant.0 q j a (ap (λ (l : Lists). slice_get (slice_index_or l.queues q []) j) c.self.view_is ∙ at))

pub returns-clause-apart : goal.returns-clause-apart
returns-clause-apart c q r j k a here there =
    let i = c.self.inside in
    stand_apart i.block i.nodes i.queues i.vacant i.free c.self.invariant.0 q r j k a (ap (λ (l : Lists). slice_get (slice_index_or l.queues q []) j) c.self.view_is ∙ here)
    (ap (λ (l : Lists). slice_get (slice_index_or l.queues r []) k) c.self.view_is ∙ there)
