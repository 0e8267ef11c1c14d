use Rattle.std.proofs.Common.{◌≡◌, ◌+◌, drop, length, map}
use Rattle.std.specs.Iterator.Adapters.{enumerate_source, enumerate_count}
use Rattle.std.specs.Vec.Iter.{into_iter_items}
use Rattle.proclang_types.specs.Views.{expr_view, value_view}
use Rattle.proclang_expressions.specs.Paths.{places}
use Rattle.proclang_expressions.specs.Values.{kinds_in, row_values_at}
use Rattle.proclang_expressions.proofs.Columns.{row_from}
use Rattle.proclang_expressions.proofs.value_lists.into_row.Given as goal

-- what the rest gives after the values so far, and how many there still are
abbrev pub invariant-loop-index : goal.invariant-loop-index
invariant-loop-index l = record {
  can_next : (goal.iterator-loop-index).can_next l.index-iterator;
  is_finite : (goal.iterator-loop-index).is_finite l.index-iterator;
  many : enumerate_count l.index-iterator + length (into_iter_items (enumerate_source l.index-iterator)) ≡ length (kinds_in l.catalogue l.table);
  rest : row_from (places l.path) (enumerate_count l.index-iterator) (map value_view l.values.items) (drop (enumerate_count l.index-iterator) (kinds_in l.catalogue l.table)) (map expr_view (into_iter_items (enumerate_source l.index-iterator)))
      ≡ row_values_at (places l.path) (kinds_in l.catalogue l.table) (map expr_view l.fn.exprs.items);
}
