use Rattle.std.proofs.Common.{subst}
use Rattle.row_store.specs.Laws.{AreLentAlone}
use Rattle.row_store.specs.Stock.{Stock}
use Rattle.row_store.proofs.Shown.{lent_alone}
use Rattle.row_store.proofs.store.RowStore.written_rows_are_lent_alone.Goals as goal

pub returns : goal.returns
returns c =
    subst (λ (s : Stock). AreLentAlone s.tables s.lent) c.self.view_is
    (lent_alone c.self.inside.catalogue c.self.inside.shelves c.self.inside.lent c.locked_rows_conflict.ensures c.self.invariant.0)
