use Rattle.std.proofs.Common.{◌≡◌, ◌∷◌, true, length, slice_get, Option, Some, None, IfSome, refl, sym, ap, ◌∙◌, subst, ℕ}
use Rattle.request_arena.specs.declared.node.Held.{Held}
use Rattle.request_arena.specs.Chains.{chain, chain_from, held_at, holds, successor_of, successor_or}
use Rattle.request_arena.specs.Linked.{held_in}
use Rattle.request_arena.specs.Lists.{Lists, IsLive}
use Rattle.request_arena.proofs.Chains.{chain_goes_on}
use Rattle.request_arena.proofs.Linked.{live_of}
use Rattle.request_arena.proofs.Nodes.{held_read, some_is}
use Rattle.request_arena.proofs.Taking.{here_in}
use Rattle.request_arena.proofs.queues.Queues.successor.Goals as goal

held_some : (o : Option (Option Held)) → holds o ≡ true → (h : Held) × (o ≡ Some (Some h))
held_some None e = cc
held_some (Some None) e = cc
held_some (Some (Some h)) e = (h, refl)

live_successor : (lists : Lists) (o : Option ℕ) → IfSome o (λ b. held_at lists.held b ≡ true) → IfSome o (λ b. IsLive lists b)
live_successor lists None h = tt
live_successor lists (Some b) h = held_some (slice_get lists.held b) h

pub get-requires : goal.get-requires
get-requires c =
    let i = c.self.inside in let x = c.id.inside.place in let there = ap (λ s. slice_get s.held x) c.self.view_is ∙ ap (slice_get c.args.self.now.held) c.id.view_is ∙ c.requires.1 in
    here_in i.block i.nodes i.queues i.vacant i.free c.self.invariant.0 x (live_of i.block i.nodes i.queues i.vacant i.free c.self.invariant.0 x c.requires.0 there)

pub content-requires : goal.content-requires
content-requires c =
    let i = c.self.inside in let x = c.id.inside.place in let there = ap (λ s. slice_get s.held x) c.self.view_is ∙ ap (slice_get c.args.self.now.held) c.id.view_is ∙ c.requires.1 in
    some_is c.get.result.held c.requires.0 (held_read i.nodes i.block x c.requires.0 c.get.result there c.get.ensures.is)

pub returns-clause-rest : goal.returns-clause-rest
returns-clause-rest c =
    let i = c.self.inside in let x = c.id.inside.place in let there = ap (λ s. slice_get s.held x) c.self.view_is ∙ ap (slice_get c.args.self.now.held) c.id.view_is ∙ c.requires.1 in
    let held : slice_get (held_in i.nodes i.block) x ≡ Some (Some c.content.result) =
    there ∙ ap Some (sym (held_read i.nodes i.block x c.requires.0 c.get.result there c.get.ensures.is) ∙ c.content.ensures) in
    ap (chain c.args.self.now.held) (sym c.id.view_is) ∙ ap (λ (l : Lists). chain l.held x) (sym c.self.view_is)
    ∙ chain_goes_on (held_in i.nodes i.block) c.self.invariant.1.end x (ap holds there) c.content.result.successor (ap (successor_or (length (held_in i.nodes i.block))) held)
    ∙ ap (λ (l : Lists). x ∷ chain_from l.held c.content.result.successor) c.self.view_is ∙ ap (λ n. n ∷ chain_from c.args.self.now.held c.content.result.successor) c.id.view_is

pub returns-clause-live : goal.returns-clause-live
returns-clause-live c =
    let i = c.self.inside in let x = c.id.inside.place in let there = ap (λ s. slice_get s.held x) c.self.view_is ∙ ap (slice_get c.args.self.now.held) c.id.view_is ∙ c.requires.1 in
    let held : slice_get (held_in i.nodes i.block) x ≡ Some (Some c.content.result) =
    there ∙ ap Some (sym (held_read i.nodes i.block x c.requires.0 c.get.result there c.get.ensures.is) ∙ c.content.ensures) in
    live_successor c.args.self.now c.content.result.successor
    (subst (λ (l : Lists). IfSome c.content.result.successor (λ b. held_at l.held b ≡ true)) c.self.view_is
    (subst (λ (o : Option ℕ). IfSome o (λ b. held_at (held_in i.nodes i.block) b ≡ true)) (ap successor_of held) (c.self.invariant.1.successor x)))
