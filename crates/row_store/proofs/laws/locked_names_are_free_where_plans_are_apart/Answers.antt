use Rattle.row_store.proofs.Free.{free_where_apart}
use Rattle.row_store.proofs.laws.locked_names_are_free_where_plans_are_apart.Goals as goal

pub returns : goal.returns
returns c = free_where_apart c.locked_rows_conflict.ensures
