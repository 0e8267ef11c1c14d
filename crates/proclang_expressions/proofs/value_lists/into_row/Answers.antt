use Rattle.std.proofs.Common.{◌≡◌, ◌∷◌, ◌++◌, [], drop, length, map, ap, rules, arith}
use Rattle.std.proofs.lemmas.List.{map_push}
use Rattle.std.specs.Iterator.Adapters.{enumerate_source}
use Rattle.std.specs.Vec.Iter.{into_iter_items}
use Rattle.proclang_types.specs.Views.{expr_view, value_view}
use Rattle.proclang_expressions.specs.Paths.{places}
use Rattle.proclang_expressions.specs.Values.{kinds_in, row_values_at}
use Rattle.proclang_expressions.proofs.Columns.{row_from, row_goes_on}
use Rattle.proclang_expressions.proofs.value_lists.into_row.Goals as goal

pub loop-index-preserved : goal.loop-index-preserved
loop-index-preserved c =
    let steps = c.in-Some.ensures.steps in
    let path = places c.args.path.now in
    let kinds = kinds_in c.args.catalogue.now c.args.table in
    let i = c.in-Some.index in
    let before = map value_view c.loop-index.values.items in
    let es = map expr_view (into_iter_items (enumerate_source c.next.new.self)) in
    let items : map expr_view (into_iter_items (enumerate_source c.loop-index.index-iterator)) ≡ expr_view c.in-Some.expr ∷ es = ap (map expr_view) steps.0.0 in
    let known : row_from path i before (drop i kinds) (expr_view c.in-Some.expr ∷ es) ≡ row_values_at path kinds (map expr_view c.args.exprs.items) = rw (steps.1, ← items) c.loop-index.invariant.rest in
    let pushed : map value_view c.push.new.self.items ≡ before ++ value_view c.in_ok-value.value ∷ [] = rw c.in_ok-push.ensures.items (map_push _ c.loop-index.values.items c.in_ok-value.value) in
    record {
      can_next = search rules;
      is_finite = search rules;
      many = omega (arith, c.loop-index.invariant.many, ap length steps.0.0, steps.2);
      rest =
          rw (pushed, steps.2, ← steps.1)
          (row_goes_on path i before kinds c.column_kind-kind.result (expr_view c.in-Some.expr) es (value_view c.in_ok-value.value) (row_values_at path kinds (map expr_view c.args.exprs.items)) c.column_kind-kind.ensures c.in_ok-value.ensures known);
    }
