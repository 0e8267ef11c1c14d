use Rattle.std.proofs.Common.{◌≡◌, sym, ◌∙◌, refl, Less, Equal, Greater}
use Rattle.footprint.specs.Tree.{resource_cmp}
use Rattle.coarsen.proofs.Merging.{contains_tail, ordered_tail, past_first, past_second, past_both, conflict_here, conflict_within}
use Rattle.coarsen.proofs.clashes.conflict.Goals as goal

pub returns-then-not-compatible : goal.returns-then-not-compatible
returns-then-not-compatible c =
    let a = c.in-Some-Some.ensures.cases.0 in
    let b = c.in-Some-Some.ensures'.cases.0 in
    let equal : resource_cmp c.in-Some-Some.a.now.0 c.in-Some-Some.b.now.0 ≡ Equal = sym c.cmp.ensures ∙ c.in-Equal.is in
    let here = conflict_here c.loop-a.first.now c.loop-a.second.now c.in-Some-Some.after_a.now c.in-Some-Some.after_b.now c.in-Some-Some.a.now c.in-Some-Some.b.now a b equal (sym c.compatible.ensures ∙ c.if-not-compatible.true) in
    (λ h. conflict_within c.loop-a.first.now c.loop-a.second.now c.args.first.now c.args.second.now c.loop-a.invariant.of_first c.loop-a.invariant.of_second here, λ k. refl)

pub loop-a-preserved-in-Less : goal.loop-a-preserved-in-Less
loop-a-preserved-in-Less c =
    let a = c.in-Some-Some.ensures.cases.0 in
    let b = c.in-Some-Some.ensures'.cases.0 in
    let less : resource_cmp c.in-Some-Some.a.now.0 c.in-Some-Some.b.now.0 ≡ Less = sym c.cmp.ensures ∙ c.in-Less.is in
    record {
      left = λ k. past_first c.loop-a.first.now c.loop-a.second.now c.in-Some-Some.after_a.now c.in-Some-Some.after_b.now c.in-Some-Some.a.now c.in-Some-Some.b.now a b c.loop-a.invariant.second_ordered less (c.loop-a.invariant.left k);
      of_first = λ x k. c.loop-a.invariant.of_first x (contains_tail c.loop-a.first.now c.in-Some-Some.after_a.now c.in-Some-Some.a.now x a k);
      of_second = c.loop-a.invariant.of_second;
      first_ordered = ordered_tail c.loop-a.first.now c.in-Some-Some.after_a.now c.in-Some-Some.a.now a c.loop-a.invariant.first_ordered;
      second_ordered = c.loop-a.invariant.second_ordered;
    }

pub loop-a-preserved-in-Greater : goal.loop-a-preserved-in-Greater
loop-a-preserved-in-Greater c =
    let a = c.in-Some-Some.ensures.cases.0 in
    let b = c.in-Some-Some.ensures'.cases.0 in
    let greater : resource_cmp c.in-Some-Some.a.now.0 c.in-Some-Some.b.now.0 ≡ Greater = sym c.cmp.ensures ∙ c.in-Greater.is in
    record {
      left = λ k. past_second c.loop-a.first.now c.loop-a.second.now c.in-Some-Some.after_a.now c.in-Some-Some.after_b.now c.in-Some-Some.a.now c.in-Some-Some.b.now a b c.loop-a.invariant.first_ordered greater (c.loop-a.invariant.left k);
      of_first = c.loop-a.invariant.of_first;
      of_second = λ x k. c.loop-a.invariant.of_second x (contains_tail c.loop-a.second.now c.in-Some-Some.after_b.now c.in-Some-Some.b.now x b k);
      first_ordered = c.loop-a.invariant.first_ordered;
      second_ordered = ordered_tail c.loop-a.second.now c.in-Some-Some.after_b.now c.in-Some-Some.b.now b c.loop-a.invariant.second_ordered;
    }

pub loop-a-preserved : goal.loop-a-preserved
loop-a-preserved c =
    let a = c.in-Some-Some.ensures.cases.0 in
    let b = c.in-Some-Some.ensures'.cases.0 in
    let equal : resource_cmp c.in-Some-Some.a.now.0 c.in-Some-Some.b.now.0 ≡ Equal = sym c.cmp.ensures ∙ c.in-Equal.is in
    record {
      left = λ k. past_both c.loop-a.first.now c.loop-a.second.now c.in-Some-Some.after_a.now c.in-Some-Some.after_b.now c.in-Some-Some.a.now c.in-Some-Some.b.now a b c.loop-a.invariant.first_ordered c.loop-a.invariant.second_ordered equal (sym c.compatible.ensures ∙ c.if-not-compatible.false) (c.loop-a.invariant.left k);
      of_first = λ x k. c.loop-a.invariant.of_first x (contains_tail c.loop-a.first.now c.in-Some-Some.after_a.now c.in-Some-Some.a.now x a k);
      of_second = λ x k. c.loop-a.invariant.of_second x (contains_tail c.loop-a.second.now c.in-Some-Some.after_b.now c.in-Some-Some.b.now x b k);
      first_ordered = ordered_tail c.loop-a.first.now c.in-Some-Some.after_a.now c.in-Some-Some.a.now a c.loop-a.invariant.first_ordered;
      second_ordered = ordered_tail c.loop-a.second.now c.in-Some-Some.after_b.now c.in-Some-Some.b.now b c.loop-a.invariant.second_ordered;
    }
