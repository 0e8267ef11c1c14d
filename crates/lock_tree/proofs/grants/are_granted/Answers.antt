use Rattle.std.proofs.Common.{◌≡◌, ◌∙◌, ◌&&◌, ◌∷◌, ℕ, Bool, true, false, List, Option, None, Some, IfSome, slice_get, refl, sym, ap, subst, arith}
use Rattle.footprint.specs.declared.resource.Resource.{Resource}
use Rattle.modes.specs.declared.mode.Mode.{Mode}
use Rattle.coarsen.specs.Subtrees.{Requests}
use Rattle.request_arena.specs.Chains.{chain_from}
use Rattle.request_arena.specs.Lists.{Lists, IsLive, BeginsChain}
use Rattle.lock_tree.specs.Queues.{Queue, granted, has_number}
use Rattle.lock_tree.specs.Lines.{line, numbered, nodes_of, in_order}
use Rattle.lock_tree.specs.Known.{granted_in}
use Rattle.lock_tree.specs.Chained.{ArePlaced}
use Rattle.lock_tree.proofs.Chaining.{First, placed_first, none_placed, chain_live, holds_live}
use Rattle.lock_tree.proofs.grants.are_granted.Goals as goal
use Rattle.lock_tree.proofs.grants.are_granted.Goals.{In-Some}

live_first : (lists : Lists) (head : Option ℕ) → IfSome head (λ a. IsLive lists a × BeginsChain lists a) → IfSome head (λ a. IsLive lists a)
live_first lists None h = tt
live_first lists (Some a) h = h.0

pub loop-head-init : goal.loop-head-init
loop-head-init c =
    let l = c.args.lines.now in let e = c.args.entry.now in let ok = c.requires.chained in (
      e.plan.value,
      ok.0,
      subst (λ (h : Option ℕ). IfSome h (λ a. IsLive l.nodes a)) (sym c.head-head.ensures) (live_first l.nodes e.head ok.1.begins),
      subst (λ (h : Option ℕ). ArePlaced l e.no e.plan.value ok.0 (chain_from l.nodes.held h)) (sym c.head-head.ensures) ok.1.placed,
      refl,
    )

live : (c : In-Some) → IsLive c.args.lines.now.nodes c.in-Some.node
live c = subst (λ h. IfSome h (λ a. IsLive c.args.lines.now.nodes a)) c.in-Some.is c.loop-head.invariant.2

-- the request that is looked at
first_request : (c : In-Some) (rest : List ℕ) → chain_from c.args.lines.now.nodes.held (Some c.in-Some.node) ≡ c.in-Some.node ∷ rest
    → First c.args.lines.now c.args.entry.now.no c.loop-head.invariant.0 c.loop-head.invariant.1 c.in-Some.node rest
first_request c rest is =
    let l = c.args.lines.now in let inv = c.loop-head.invariant in
    placed_first l c.args.entry.now.no inv.0 inv.1 c.in-Some.node rest
    (subst (ArePlaced l c.args.entry.now.no inv.0 inv.1) (ap (chain_from l.nodes.held) c.in-Some.is ∙ is) inv.3)

looked : (c : In-Some) → (rest : List ℕ) × First c.args.lines.now c.args.entry.now.no c.loop-head.invariant.0 c.loop-head.invariant.1 c.in-Some.node rest
looked c = let k = chain_live c.args.lines.now.nodes.held c.in-Some.node (holds_live c.args.lines.now.nodes c.in-Some.node (live c)) in (k.0, first_request c k.0 k.1)

pub is_granted-requires-clause-within : goal.is_granted-requires-clause-within
is_granted-requires-clause-within c =
    let r = (looked ((goal.at.is_granted-requires-clause-within c).In-Some)).1 in let e = c.queue_of.ensures r.number r.placed.place r.placed.there in
    let named = (c.requires.numbered.named r.request.0 r.number r.placed.named).0 in omega (arith, named, e)

pub is_granted-requires-clause-queue : goal.is_granted-requires-clause-queue
is_granted-requires-clause-queue c =
    let r = (looked ((goal.at.is_granted-requires-clause-queue c).In-Some)).1 in let e = c.queue_of.ensures r.number r.placed.place r.placed.there in
    let named = (c.requires.numbered.named r.request.0 r.number r.placed.named).0 in let few = c.requires.numbered.few in let many = c.requires.numbered.many in omega (arith, named, few, many, e)

pub is_granted-requires-clause-there : goal.is_granted-requires-clause-there
is_granted-requires-clause-there c =
    let r = (looked ((goal.at.is_granted-requires-clause-there c).In-Some)).1 in let e = c.queue_of.ensures r.number r.placed.place r.placed.there in
    (r.placed.place, c.in-Some.node, ap (λ q. slice_get (nodes_of c.args.lines.now.nodes q) r.placed.place) e ∙ r.placed.there, r.placed.owned ∙ c.requires.owner)

-- a request is granted or not, and the rest
one_more : (b : Bool) (queues : Resource → Queue) (n : ℕ) (e : Resource × Mode) (this rest : Requests) → this ≡ e ∷ rest → b ≡ has_number n (granted (queues e.0)) → granted_in queues n this ≡ b && granted_in queues n rest
one_more b queues n e this rest front is = ap (granted_in queues n) front ∙ ap (λ v. v && granted_in queues n rest) (sym is)

pub returns-then-not-is_granted : goal.returns-then-not-is_granted
returns-then-not-is_granted c =
    let r = (looked ((goal.at.returns-then-not-is_granted c).In-Some)).1 in let e = c.queue_of.ensures r.number r.placed.place r.placed.there in
    let l = c.args.lines.now in let n = c.args.entry.now.no in let inv = c.loop-head.invariant in
    sym (sym inv.4
    ∙ one_more false (line l) n r.request inv.0 r.later r.plan_is
    (c.if-not-is_granted.ensures ∙ ap (λ (k : ℕ). has_number k (granted (in_order l.nodes c.queue_of.result))) (sym c.requires.owner) ∙ ap (λ q. has_number n (granted (in_order l.nodes q))) e ∙ sym (ap (λ o. has_number n (granted (numbered l.nodes o))) r.placed.named)))

pub loop-head-preserved : goal.loop-head-preserved
loop-head-preserved c =
    let l = c.args.lines.now in let n = c.args.entry.now.no in let inv = c.loop-head.invariant in
    let r = first_request ((goal.at.loop-head-preserved c).In-Some) (chain_from l.nodes.held c.successor-head.result) c.successor-head.ensures.rest in let e = c.queue_of.ensures r.number r.placed.place r.placed.there in (
      r.later,
      r.more,
      c.successor-head.ensures.live,
      r.others,
      sym (one_more true (line l) n r.request inv.0 r.later r.plan_is
          (c.if-not-is_granted.ensures ∙ ap (λ (k : ℕ). has_number k (granted (in_order l.nodes c.queue_of.result))) (sym c.requires.owner) ∙ ap (λ q. has_number n (granted (in_order l.nodes q))) e ∙ sym (ap (λ o. has_number n (granted (numbered l.nodes o))) r.placed.named))) ∙ inv.4,
    )

pub returns : goal.returns
returns c =
    let l = c.args.lines.now in let n = c.args.entry.now.no in let inv = c.loop-head.invariant in
    sym (ap (granted_in (line l) n) (none_placed l n inv.0 inv.1 (subst (λ h. ArePlaced l n inv.0 inv.1 (chain_from l.nodes.held h)) c.in_default.is inv.3))) ∙ inv.4
