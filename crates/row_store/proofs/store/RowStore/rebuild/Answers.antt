use Rattle.std.proofs.Common.{◌≡◌, List, ap, ◌∙◌}
use Rattle.std.specs.FinMap.{empty}
use Rattle.catalogue.specs.Shapes.{TableShape}
use Rattle.row_store.specs.Stock.{Stock}
use Rattle.shelves.specs.Rows.{rows_of}
use Rattle.row_store.specs.Views.{lent_of}
use Rattle.row_store.proofs.Shown.{all_here}
use Rattle.shelves.proofs.RowsBack.{rows_back}
use Rattle.row_store.proofs.store.RowStore.rebuild.Goals as goal

pub returns-clause-rows : goal.returns-clause-rows
returns-clause-rows c =
    let none : lent_of c.self.inside.lent ≡ empty = ap (λ (s : Stock). s.lent) c.self.view_is ∙ c.requires.unlent in
    ap (λ (t : List TableShape). rows_of t c.in_ok-shelves.shelves) c.in_ok-catalogue.ensures.cases
    ∙ rows_back c.self.inside.catalogue c.args.catalogue.now c.self.inside.shelves c.in_ok-shelves.shelves
    (all_here c.self.inside.catalogue c.self.inside.shelves c.self.inside.lent none c.self.invariant.0) c.in_ok-shelves.ensures.rows
    ∙ ap (λ (s : Stock). s.rows) c.self.view_is
