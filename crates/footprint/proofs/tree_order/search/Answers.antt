use Rattle.std.proofs.Common.{rules, ◌∙◌, ap, sym}
use Rattle.std.proofs.lemmas.List.Sorted.{answers_always}
use Rattle.std.specs.Ordering.{is_lt}
use Rattle.footprint.specs.Tree.{resource_cmp}
use Rattle.footprint.specs.declared.resource.Resource.{Resource}
use Rattle.footprint.proofs.Placing.{is_less, at_end, placed}
use Rattle.footprint.proofs.tree_order.search.Goals as goal

-- all entries are on earlier resources
pub returns-in-Some-clause-absent : goal.returns-in-Some-clause-absent
returns-in-Some-clause-absent g c =
    at_end c.args.entries.now c.requires c.args.resource.now _ c.in-Some.field-0.now
    (search rules) (λ d. c.in-Some.ensures.item.3.1 d)
    (is_less (resource_cmp c.in-Some.field-0.now.0 c.args.resource.now) (ap is_lt (sym c.cmp.ensures) ∙ sym c.is_lt.ensures ∙ c.if-is_lt.true))

-- a binary search finds the entry, or the gap for it
pub returns-in_default-clause-found : goal.returns-in_default-clause-found
returns-in_default-clause-found g c =
    let facts = c.binary_search_by_key.ensures in
    let by_key = facts.position (λ (e : Resource × g.row.V.Denot). e.0) (answers_always _ _ _ (λ f a r h called. search rules)) in
    (placed c.args.entries.now c.requires c.args.resource.now c.binary_search_by_key.result facts.bound by_key).found

pub returns-in_default-clause-absent : goal.returns-in_default-clause-absent
returns-in_default-clause-absent g c =
    let facts = c.binary_search_by_key.ensures in
    let by_key = facts.position (λ (e : Resource × g.row.V.Denot). e.0) (answers_always _ _ _ (λ f a r h called. search rules)) in
    (placed c.args.entries.now c.requires c.args.resource.now c.binary_search_by_key.result facts.bound by_key).absent
