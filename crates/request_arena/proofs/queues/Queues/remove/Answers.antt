use Rattle.std.proofs.Common.{◌≡◌, ◌<◌, ◌+◌, suc, length, ◌∷◌, slice_get, slice_set, Some, None, IfSome, map, subst, sym, ap, ◌∙◌, arith}
use Rattle.request_arena.specs.declared.node.Held.{Held}
use Rattle.request_arena.specs.Chains.{chain, chain_from, held_at, holds, successor_of, successor_or}
use Rattle.request_arena.specs.Following.{without}
use Rattle.request_arena.specs.Linked.{AreChains, held_in, spread, queue_of, IsLinked}
use Rattle.request_arena.specs.Lists.{Lists, BeginsChain}
use Rattle.request_arena.specs.Nodes.{next_of, prev_of, home}
use Rattle.request_arena.proofs.Apart.{Begins, firsts_removed, next_first}
use Rattle.request_arena.proofs.Chains.{chain_beside, chain_rest}
use Rattle.request_arena.proofs.Homes.{homes_removed}
use Rattle.request_arena.proofs.Nodes.{held_read, some_is}
use Rattle.request_arena.proofs.Pushing.{chains_removed}
use Rattle.request_arena.proofs.Linked.{live_of}
use Rattle.request_arena.proofs.Taking.{room_to_free, taken, linked_taken, queues_taken, held_taken, homes_taken, taken_by, before_in, after_in, here_in}
use Rattle.request_arena.proofs.queues.Queues.remove.Goals as goal

pub get-node-requires : goal.get-node-requires
get-node-requires c =
    let i = c.self.inside in let x = c.id.inside.place in let named = c.id.view_is in let linked = c.self.invariant.0 in
    let there = ap (λ (l : Lists). slice_get l.held x) c.self.view_is ∙ ap (slice_get c.args.self.now.held) named ∙ c.requires.live.1 in
    let on = live_of i.block i.nodes i.queues i.vacant i.free linked x c.requires.live.0 there in
    here_in i.block i.nodes i.queues i.vacant i.free linked x on

pub set_next-requires : goal.set_next-requires
set_next-requires c =
    let i = c.self.inside in let x = c.id.inside.place in let named = c.id.view_is in let linked = c.self.invariant.0 in
    let there = ap (λ (l : Lists). slice_get l.held x) c.self.view_is ∙ ap (slice_get c.args.self.now.held) named ∙ c.requires.live.1 in
    let on = live_of i.block i.nodes i.queues i.vacant i.free linked x c.requires.live.0 there in
    record { there = subst (λ a. a < length i.block) (ap prev_of c.get-node.ensures.is) (before_in i.block i.nodes i.queues i.vacant i.free linked x on); small = c.get-node.ensures.small.next }

pub set_prev-requires : goal.set_prev-requires
set_prev-requires c =
    let i = c.self.inside in let x = c.id.inside.place in let named = c.id.view_is in let linked = c.self.invariant.0 in
    let there = ap (λ (l : Lists). slice_get l.held x) c.self.view_is ∙ ap (slice_get c.args.self.now.held) named ∙ c.requires.live.1 in
    let on = live_of i.block i.nodes i.queues i.vacant i.free linked x c.requires.live.0 there in
    record { there = rw c.set_next.ensures.long (subst (λ a. a < length i.block) (ap next_of c.get-node.ensures.is) (after_in i.block i.nodes i.queues i.vacant i.free linked x on)); small = c.get-node.ensures.small.prev }

pub set_free-requires : goal.set_free-requires
set_free-requires c =
    let i = c.self.inside in let x = c.id.inside.place in let named = c.id.view_is in let linked = c.self.invariant.0 in
    let there = ap (λ (l : Lists). slice_get l.held x) c.self.view_is ∙ ap (slice_get c.args.self.now.held) named ∙ c.requires.live.1 in
    let on = live_of i.block i.nodes i.queues i.vacant i.free linked x c.requires.live.0 there in
    let same : length c.set_prev.new.self ≡ length i.block = c.set_prev.ensures.long ∙ c.set_next.ensures.long in
    record { there = rw same (here_in i.block i.nodes i.queues i.vacant i.free linked x on); small = c.self.invariant.3 }

pub overflow_add-self : goal.overflow_add-self
overflow_add-self c =
    let i = c.self.inside in let x = c.id.inside.place in let named = c.id.view_is in let linked = c.self.invariant.0 in
    let there = ap (λ (l : Lists). slice_get l.held x) c.self.view_is ∙ ap (slice_get c.args.self.now.held) named ∙ c.requires.live.1 in
    let on = live_of i.block i.nodes i.queues i.vacant i.free linked x c.requires.live.0 there in
    let less = room_to_free i.block i.nodes i.queues i.vacant i.free linked x on c.requires.live.0 there in omega (arith, less, linked.fits)

pub content-successor-requires : goal.content-successor-requires
content-successor-requires c =
    let i = c.self.inside in let x = c.id.inside.place in
    let there = ap (λ (l : Lists). slice_get l.held x) c.self.view_is ∙ ap (slice_get c.args.self.now.held) c.id.view_is ∙ c.requires.live.1 in
    some_is c.get-node.result.held c.requires.live.0 (held_read i.nodes i.block x c.requires.live.0 c.get-node.result there c.get-node.ensures.is)

pub invariant_of-self : goal.invariant_of-self
invariant_of-self c =
    let i = c.self.inside in let x = c.id.inside.place in let named = c.id.view_is in let linked = c.self.invariant.0 in
    let there = ap (λ (l : Lists). slice_get l.held x) c.self.view_is ∙ ap (slice_get c.args.self.now.held) named ∙ c.requires.live.1 in
    let on = live_of i.block i.nodes i.queues i.vacant i.free linked x c.requires.live.0 there in
    let e = taken_by i.block i.nodes i.queues i.vacant i.free linked x on c.get-node.result c.get-node.ensures.is c.set_next.new.self c.set_prev.new.self c.set_free.new.self
    c.set_next.ensures.nodes c.set_prev.ensures.nodes c.set_free.ensures.nodes in
    let gone = ap (held_in i.nodes) e ∙ held_taken i.block i.nodes i.queues i.vacant i.free linked x on in
    let first : Begins (held_in i.nodes i.block) x = subst (λ (l : Lists). BeginsChain l x) (sym c.self.view_is) (subst (λ n. BeginsChain c.args.self.now n) (sym named) c.requires.first) in
    let more : suc i.free ≡ i.free + 1 = omega arith in (
      subst (λ b. IsLinked b i.nodes i.queues x (i.free + 1)) (sym e) (subst (λ m. IsLinked (taken i.block i.nodes i.queues i.vacant i.free linked x on) i.nodes i.queues x m) more (linked_taken i.block i.nodes i.queues i.vacant i.free linked x on c.requires.live.0 there)),
      subst AreChains (sym gone) (chains_removed (held_in i.nodes i.block) c.self.invariant.1 x (ap holds there) first),
      homes_removed i.block c.set_free.new.self i.nodes i.queues c.self.invariant.2 x (λ a. ap (λ b. home b a) e ∙ homes_taken i.block i.nodes i.queues i.vacant i.free linked x on a)
          (ap (λ b. spread (queue_of b i.nodes) i.nodes i.queues) e ∙ queues_taken i.block i.nodes i.queues i.vacant i.free linked x on),
      (let there_in = here_in i.block i.nodes i.queues i.vacant i.free linked x on in let long = linked.long in let fits = linked.fits in omega (arith, there_in, long, fits)),
    )

pub returns-clause-held : goal.returns-clause-held
returns-clause-held c =
    let i = c.self.inside in let x = c.id.inside.place in let named = c.id.view_is in let linked = c.self.invariant.0 in
    let there = ap (λ (l : Lists). slice_get l.held x) c.self.view_is ∙ ap (slice_get c.args.self.now.held) named ∙ c.requires.live.1 in
    c.requires.live.1 ∙ ap Some (sym (held_read i.nodes i.block x c.requires.live.0 c.get-node.result there c.get-node.ensures.is) ∙ c.content-successor.ensures)

pub returns-clause-removed : goal.returns-clause-removed
returns-clause-removed c =
    let i = c.self.inside in let x = c.id.inside.place in let named = c.id.view_is in let linked = c.self.invariant.0 in
    let there = ap (λ (l : Lists). slice_get l.held x) c.self.view_is ∙ ap (slice_get c.args.self.now.held) named ∙ c.requires.live.1 in
    let on = live_of i.block i.nodes i.queues i.vacant i.free linked x c.requires.live.0 there in
    let e = taken_by i.block i.nodes i.queues i.vacant i.free linked x on c.get-node.result c.get-node.ensures.is c.set_next.new.self c.set_prev.new.self c.set_free.new.self
    c.set_next.ensures.nodes c.set_prev.ensures.nodes c.set_free.ensures.nodes in
    let gone = ap (held_in i.nodes) e ∙ held_taken i.block i.nodes i.queues i.vacant i.free linked x on in
    let first : Begins (held_in i.nodes i.block) x = subst (λ (l : Lists). BeginsChain l x) (sym c.self.view_is) (subst (λ n. BeginsChain c.args.self.now n) (sym named) c.requires.first) in
    let held : slice_get (held_in i.nodes i.block) x ≡ Some (Some c.content-successor.result) =
    there ∙ ap Some (sym (held_read i.nodes i.block x c.requires.live.0 c.get-node.result there c.get-node.ensures.is) ∙ c.content-successor.ensures) in
    record {
      gone = gone ∙ ap (λ (l : Lists). slice_set l.held x None) c.self.view_is ∙ ap (λ n. slice_set c.args.self.now.held n None) named;
      queues =
          ap (λ b. spread (queue_of b i.nodes) i.nodes i.queues) e ∙ queues_taken i.block i.nodes i.queues i.vacant i.free linked x on
          ∙ ap (λ (l : Lists). map (without x) l.queues) c.self.view_is ∙ ap (λ n. map (without n) c.args.self.now.queues) named;
      rest =
          ap (chain c.args.self.now.held) (sym named) ∙ ap (λ (l : Lists). chain l.held x) (sym c.self.view_is)
          ∙ chain_rest (held_in i.nodes i.block) c.self.invariant.1.end x (ap holds there) first c.content-successor.result.successor (ap (successor_or (length (held_in i.nodes i.block))) held)
          ∙ ap (λ l. x ∷ chain_from l c.content-successor.result.successor) (sym gone) ∙ ap (λ n. n ∷ chain_from (held_in i.nodes c.set_free.new.self) c.content-successor.result.successor) named;
      chains = λ a z h.
          ap (λ l. chain l a) gone
          ∙ chain_beside (held_in i.nodes i.block) c.self.invariant.1.end x (ap holds there) first a (λ y. z (y ∙ named)) (ap (λ (l : Lists). held_at l.held a) c.self.view_is ∙ h)
          ∙ ap (λ (l : Lists). chain l.held a) c.self.view_is;
      begins =
          subst (λ hs. IfSome c.content-successor.result.successor (λ b. ((h : Held) × (slice_get hs b ≡ Some (Some h))) × Begins hs b)) (sym gone)
          (next_first (held_in i.nodes i.block) x (ap holds there) first c.self.invariant.1.apart c.self.invariant.1.successor c.content-successor.result.successor (ap successor_of held));
      firsts = λ a begins.
          subst (λ hs. Begins hs a) (sym gone) (firsts_removed (held_in i.nodes i.block) x (ap holds there) a (subst (λ (l : Lists). Begins l.held a) (sym c.self.view_is) begins));
    }
