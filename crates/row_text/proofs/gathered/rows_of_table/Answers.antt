use Rattle.std.proofs.Common.{rules}
use Rattle.std.proofs.lemmas.List.Sorted.{IsNonDecreasingBy-from_sort_by_key}
use Rattle.row_text.proofs.Gathering.{moved_sorted, sorted_rows}
use Rattle.row_text.proofs.gathered.rows_of_table.Goals as goal

pub returns : goal.returns
returns g c =
    sorted_rows c.args.table (g.V.RowView.rows c.args.view.now) c.in_ok-rows.rows.items c.sort_by_key.new.self.items c.in_ok-rows.ensures
    (moved_sorted c.in_ok-rows.rows.items c.deref_mut.result.now c.place_consecutive.new.rows c.sort_by_key.new.self.items c.in_ok-rows.rows.len
    c.deref_mut.ensures.value (search rules) c.place_consecutive.ensures c.sort_by_key.ensures.permutation)
    (IsNonDecreasingBy-from_sort_by_key (λ e. e.0) _ c.in_ok-sort_by_key.ensures.sorted (λ a r q k. search rules))
