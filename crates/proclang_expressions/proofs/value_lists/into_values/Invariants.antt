use Rattle.std.proofs.Common.{◌≡◌, ◌+◌, map}
use Rattle.std.specs.Iterator.Adapters.{enumerate_source, enumerate_count}
use Rattle.std.specs.Vec.Iter.{into_iter_items}
use Rattle.proclang_types.specs.Views.{expr_view, value_view}
use Rattle.proclang_expressions.specs.Paths.{places}
use Rattle.proclang_expressions.specs.Walk.{each_from, appended}
use Rattle.proclang_expressions.specs.Expressions.{as_value}
use Rattle.proclang_expressions.specs.Values.{values_at}
use Rattle.proclang_expressions.proofs.value_lists.into_values.Given as goal

-- what the rest gives after the values so far
abbrev pub invariant-loop-index : goal.invariant-loop-index
invariant-loop-index l = record {
  can_next : (goal.iterator-loop-index).can_next l.index-iterator;
  is_finite : (goal.iterator-loop-index).is_finite l.index-iterator;
  rest : each_from (λ p before e. appended before (as_value p e)) (places l.path) (enumerate_count l.index-iterator + 1) (map value_view l.values.items) (map expr_view (into_iter_items (enumerate_source l.index-iterator)))
      ≡ values_at (places l.path) (map expr_view l.fn.exprs.items);
}
