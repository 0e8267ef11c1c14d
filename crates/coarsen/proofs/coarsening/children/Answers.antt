use Rattle.std.proofs.Common.{◌≡◌, ap, ◌∙◌, unwrap_or, length, arith}
use Rattle.std.specs.BTreeMap.{get}
use Rattle.footprint.specs.Tree.{resource_cmp}
use Rattle.std.proofs.lemmas.Map.Iter.{rest_more}
use Rattle.std.specs.Map.Iter.{deref_pair}
use Rattle.std.specs.FinMap.{entries}
use Rattle.coarsen.proofs.Counts.{count_on, count_first, count_within}
use Rattle.coarsen.proofs.coarsening.children.Goals as goal

pub loop-resource-preserved-in_ok-insert : goal.loop-resource-preserved-in_ok-insert
loop-resource-preserved-in_ok-insert c = λ q.
    let turn = rest_more deref_pair c.loop-resource.resource-iterator c.next.new.self c.next.result _ c.in-Some.is c.next.ensures.steps in
    count_on c.args.level c.insert.new.self c.loop-resource.counts c.in-Some-parent.parent c.loop-resource.resource-iterator c.next.new.self _ c.unwrap_or-count.result _ q
    turn (cc) (c.unwrap_or-count.ensures ∙ ap (λ o. unwrap_or o 0) (c.copied.ensures ∙ c.get.ensures.value))
    (c.in_ok-insert.ensures.updates.0 q) (c.loop-resource.invariant q)

pub overflow_add-count : goal.overflow_add-count
overflow_add-count c =
    let i = c.loop-resource.invariant c.in-Some-parent.parent in
    let w = count_within c.args.level (entries c.args.footprint.now) c.in-Some-parent.parent in
    let v : c.unwrap_or-count.result ≡ unwrap_or (get resource_cmp c.loop-resource.counts c.in-Some-parent.parent) 0 = c.unwrap_or-count.ensures ∙ ap (λ o. unwrap_or o 0) (c.copied.ensures ∙ c.get.ensures.value) in
    let n = ap length c.iter-resource-items.ensures.entries in
    let m = c.iter-resource-items.ensures.fits in
    let turn = rest_more deref_pair c.loop-resource.resource-iterator c.next.new.self c.next.result _ c.in-Some.is c.next.ensures.steps in
    let one = count_first c.args.level c.loop-resource.resource-iterator c.next.new.self _ c.in-Some-parent.parent turn (cc) in
    omega (arith, i, w, v, n, m, one)
