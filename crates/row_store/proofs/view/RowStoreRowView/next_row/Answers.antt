use Rattle.std.proofs.Common.{◌≡◌, List, sym, ap, subst, ◌∙◌, option_map}
use Rattle.std.specs.FinMap as finite
use Rattle.catalogue.specs.Shapes.{TableShape}
use Rattle.workspace.specs.Scan.{IsNext, is_in_part}
use Rattle.row_store.specs.Stock.{Stock}
use Rattle.shelves.proofs.Rows.{get-rows_of}
use Rattle.row_store.proofs.Shown.{store_here}
use Rattle.row_store.proofs.view.RowStoreRowView.next_row.Goals as goal

pub returns : goal.returns
returns c =
    let tables : c.self.inside.catalogue ≡ c.args.self.now.tables = ap (λ (s : Stock). s.tables) c.self.view_is in
    subst (λ (t : List TableShape). IsNext t c.args.self.now.rows c.args.table c.args.part c.args.after (option_map (λ found. (found.0, found.1.now)) c.next_row.result)) tables
    (c.next_row.ensures c.args.self.now.rows (λ q h. sym
    (store_here c.self.inside.catalogue c.self.inside.shelves c.self.inside.lent c.args.self.now c.self.view_is c.self.invariant.0 q
    (c.requires.shown q (ap (λ (t : List TableShape). is_in_part t c.args.table c.args.part q) (sym tables) ∙ h))
    ∙ sym (get-rows_of c.self.inside.catalogue c.self.inside.shelves q) ∙ ap (λ (s : Stock). finite.get s.rows q) c.self.view_is)))
