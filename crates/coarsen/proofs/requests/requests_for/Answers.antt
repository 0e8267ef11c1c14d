use Rattle.std.proofs.Common.{◌≡◌, ap, arith, [], sym, subst}
use Rattle.std.proofs.lemmas.Map.Iter.{rest_more, rest_all}
use Rattle.std.specs.Map.Iter.{deref_pair}
use Rattle.modes.specs.declared.mode.Mode.{Mode}
use Rattle.modes.specs.Rights.{rank_of}
use Rattle.modes.specs.Modes.{own, subtree}
use Rattle.coarsen.specs.Subtrees.{Requests, greatest, is_same, holds, own_on, subtree_on}
use Rattle.coarsen.proofs.Requesting.{taken}
use Rattle.coarsen.proofs.Drafting.{AsksAbove, none_asks}
use Rattle.footprint.proofs.Placing.{none_sorted}
use Rattle.footprint.specs.InTreeOrder.{IsInTreeOrder}
use Rattle.coarsen.proofs.Entries.{right_on-entries}
use Rattle.coarsen.proofs.requests.requests_for.Goals as goal

pub loop-resource-preserved : goal.loop-resource-preserved
loop-resource-preserved c =
    let turn = rest_more deref_pair c.loop-resource.resource-iterator c.next.new.self c.next.result _ c.in-Some.is c.next.ensures.steps in
    record {
      owns = λ r. taken (is_same r c.in-Some.resource.now) (rank_of c.in-Some.right.now) (own c.whole.result) _ _ _ _ _ (ap (greatest rank_of (is_same r)) turn) c.whole.ensures.own (c.in_ok-request_up.ensures.own r) (c.loop-resource.invariant.owns r);
      subtrees = λ r. taken (holds r c.in-Some.resource.now) (rank_of c.in-Some.right.now) (subtree c.whole.result) _ _ _ _ _ (ap (greatest rank_of (holds r)) turn) c.whole.ensures.subtree (c.in_ok-request_up.ensures.subtree r) (c.loop-resource.invariant.subtrees r);
    }

pub returns : goal.returns
returns c =
    let none : c.loop-resource.resource-iterator ≡ [] = rest_all deref_pair c.loop-resource.resource-iterator c.next.new.self c.next.result c.in-None.is c.next.ensures.steps in
    record {
      ordered = c.draft-2.invariant.0;
      owns = λ r.
          let e : greatest rank_of (is_same r) c.loop-resource.resource-iterator ≡ 0 = ap (greatest rank_of (is_same r)) none in
          let i = c.loop-resource.invariant.owns r in
          let k = right_on-entries c.args.footprint.now r in
          let d = ap (λ (es : Requests). own_on es r) c.draft-2.view_is in
          omega (arith, e, i, k, d);
      subtrees = λ r.
          let e : greatest rank_of (holds r) c.loop-resource.resource-iterator ≡ 0 = ap (greatest rank_of (holds r)) none in
          let i = c.loop-resource.invariant.subtrees r in
          let d = ap (λ (es : Requests). subtree_on es r) c.draft-2.view_is in
          omega (arith, e, i, d);
    }

pub invariant_of-draft : goal.invariant_of-draft
invariant_of-draft c =
    subst (λ (es : Requests). IsInTreeOrder es × AsksAbove es) (sym c.in_ok-with_capacity.ensures.items) (none_sorted Mode, none_asks)
