use Rattle.std.proofs.Common.{◌≡◌, ◌∷◌, ◌∙◌, ℕ, cond, Option, Some, List, length, slice_get, refl, ap, sym, subst, arith}
use Rattle.std.proofs.lemmas.Option.{slice_get_read, slice_get_within}
use Rattle.footprint.specs.declared.resource.Resource.{Resource}
use Rattle.coarsen.specs.Subtrees.{Requests}
use Rattle.request_arena.specs.Chains.{chain_from}
use Rattle.lock_tree.specs.Queues.{mode_on}
use Rattle.lock_tree.specs.Lines.{line, is_same, others}
use Rattle.lock_tree.specs.Chained.{IsPlaced, Chains}
use Rattle.lock_tree.proofs.Leaving.{rest_left, more_left}
use Rattle.lock_tree.proofs.Positions.{some_is}
use Rattle.lock_tree.proofs.Chaining.{First, chain_first, placed_length, none_placed}
use Rattle.lock_tree.proofs.release.leave_all.Goals as goal
use Rattle.lock_tree.proofs.release.leave_all.Goals.{In-Some}

pub loop-head-init : goal.loop-head-init
loop-head-init c =
    let l = c.args.lines.now in let plan = c.args.entry.now.plan.value in (
      plan,
      c.requires.chain.0,
      record {
        chain = subst (λ (h : Option ℕ). Chains l c.args.no plan c.requires.chain.0 h) (sym c.head-head.ensures) c.requires.chain.1;
        free = refl;
        rest = λ other. refl;
        left = λ other none. sym (c.requires.elsewhere other none);
        same = refl;
        agree = c.requires.agree;
      },
    )

chain_of : (c : In-Some) → Chains c.loop-head.lines c.args.no c.loop-head.invariant.0 c.loop-head.invariant.1 (Some c.in-Some.node)
chain_of c = subst (λ (h : Option ℕ). Chains c.loop-head.lines c.args.no c.loop-head.invariant.0 c.loop-head.invariant.1 h) c.in-Some.is c.loop-head.invariant.2.chain

-- the request whose node is taken out
first_of : (c : In-Some) → (rest : List ℕ) × First c.loop-head.lines c.args.no c.loop-head.invariant.0 c.loop-head.invariant.1 c.in-Some.node rest
first_of c = chain_first c.loop-head.lines c.args.no c.loop-head.invariant.0 c.loop-head.invariant.1 c.in-Some.node (chain_of c)

pub index-requires : goal.index-requires
index-requires c =
    let r = (first_of ((goal.at.index-requires c).In-Some)).1 in let e = c.queue_of-number.ensures r.number r.placed.place r.placed.there in
    let l = c.loop-head.lines in
    let near = slice_get_within l.resources.items r.number r.request.0 (c.loop-head.invariant.2.agree.numbered.noted r.request.0 r.number r.placed.named) in let n = l.resources.ok.0 in omega (arith, near, n, e)

-- it is the resource that is noted by the number
resource_is : (c : In-Some) (q : ℕ) (x : Resource) (r : First c.loop-head.lines c.args.no c.loop-head.invariant.0 c.loop-head.invariant.1 c.in-Some.node (first_of c).0) → q ≡ r.number
    → slice_get c.loop-head.lines.resources.items q ≡ Some x → r.request.0 ≡ x
resource_is c q x r e at =
    let l = c.loop-head.lines in some_is r.request.0 x (sym (c.loop-head.invariant.2.agree.numbered.noted r.request.0 r.number r.placed.named) ∙ ap (slice_get l.resources.items) (sym e) ∙ at)

pub leave_one-head-requires-clause-placed : goal.leave_one-head-requires-clause-placed
leave_one-head-requires-clause-placed c =
    let d = (goal.at.leave_one-head-requires-clause-placed c).In-Some in let r = (first_of d).1 in let e = c.queue_of-number.ensures r.number r.placed.place r.placed.there in
    let l = c.loop-head.lines in
    let near = slice_get_within l.resources.items r.number r.request.0 (c.loop-head.invariant.2.agree.numbered.noted r.request.0 r.number r.placed.named) in
    let at = slice_get_read l.resources.items (length l.resources.items) c.queue_of-number.result c.index.result.now refl (omega (arith, near, e)) c.index.ensures in
    subst (λ (x : Resource). IsPlaced l c.args.no x c.queue_of-number.result c.in-Some.node) (resource_is d c.queue_of-number.result c.of-resource.result.value r e (at ∙ ap Some (sym c.of-resource.ensures)))
    (subst (λ (n : ℕ). IsPlaced l c.args.no r.request.0 n c.in-Some.node) (sym e) r.placed)

-- what is left of the chain
next_of : (c : In-Some) (first : First c.loop-head.lines c.args.no c.loop-head.invariant.0 c.loop-head.invariant.1 c.in-Some.node (first_of c).0)
    → Chains c.loop-head.lines c.args.no (first.request ∷ first.later) (first.number ∷ first.more) (Some c.in-Some.node)
next_of c first =
    subst (λ (ns : List ℕ). Chains c.loop-head.lines c.args.no (first.request ∷ first.later) ns (Some c.in-Some.node)) first.numbers_are
    (subst (λ (p : Requests). Chains c.loop-head.lines c.args.no p c.loop-head.invariant.1 (Some c.in-Some.node)) first.plan_is (chain_of c))

pub loop-head-smaller : goal.loop-head-smaller
loop-head-smaller c =
    let d = (goal.at.loop-head-smaller c).In-Some in let r = (first_of d).1 in let inv = c.loop-head.invariant in
    let rest = c.leave_one-head.ensures.shorter r.request r.later r.number r.more (next_of d r) in
    let was = placed_length c.loop-head.lines c.args.no inv.0 inv.1 (chain_from c.loop-head.lines.nodes.held c.loop-head.head) inv.2.chain.placed in
    let now = placed_length c.leave_one-head.new.lines c.args.no r.later r.more (chain_from c.leave_one-head.new.lines.nodes.held c.leave_one-head.result) rest.placed in
    let n = ap length r.plan_is in omega (arith, was, now, n)

pub loop-head-preserved : goal.loop-head-preserved
loop-head-preserved c =
    let d = (goal.at.loop-head-preserved c).In-Some in let r = (first_of d).1 in let left = c.leave_one-head.ensures in let now = c.leave_one-head.new.lines in
    let inv = c.loop-head.invariant.2 in let l = c.loop-head.lines in let plan = c.loop-head.invariant.0 in
    let e = c.queue_of-number.ensures r.number r.placed.place r.placed.there in
    let near = slice_get_within l.resources.items r.number r.request.0 (inv.agree.numbered.noted r.request.0 r.number r.placed.named) in
    let at = slice_get_read l.resources.items (length l.resources.items) c.queue_of-number.result c.index.result.now refl (omega (arith, near, e)) c.index.ensures in
    let is = resource_is d c.queue_of-number.result c.of-resource.result.value r e (at ∙ ap Some (sym c.of-resource.ensures)) in
    let gone : (other : Resource) → line now other ≡ cond (is_same other r.request.0) (others c.args.no (line l other)) (line l other) =
    λ other. left.left other ∙ ap (λ (x : Resource). cond (is_same other x) (others c.args.no (line l other)) (line l other)) (sym is) in (
      r.later,
      r.more,
      record {
        chain = left.shorter r.request r.later r.number r.more (next_of d r);
        free = (let f = left.free in let g = inv.free in let n = ap length r.plan_is in omega (arith, f, g, n));
        rest = λ other. rest_left c.args.no r.request.0 other (line l other) (line c.args.lines.now other) (line now other) (gone other) (inv.rest other);
        left = λ other none.
            more_left c.args.no other r.request (line l other) (line c.args.lines.now other) (line now other) plan r.later (gone other) (inv.rest other) r.plan_is (inv.left other) none;
        same = left.same ∙ inv.same;
        agree = left.agree;
      },
    )

pub returns-clause-free : goal.returns-clause-free
returns-clause-free c =
    let inv = c.loop-head.invariant in
    let none = none_placed c.loop-head.lines c.args.no inv.0 inv.1 (subst (λ (h : Option ℕ). Chains c.loop-head.lines c.args.no inv.0 inv.1 h) c.in_default.is inv.2.chain).placed in
    let n = ap length none in let f = inv.2.free in omega (arith, n, f)

pub returns-clause-left : goal.returns-clause-left
returns-clause-left c = λ other.
    let inv = c.loop-head.invariant in
    let none = none_placed c.loop-head.lines c.args.no inv.0 inv.1 (subst (λ (h : Option ℕ). Chains c.loop-head.lines c.args.no inv.0 inv.1 h) c.in_default.is inv.2.chain).placed in
    inv.2.left other (ap (mode_on other) none)
