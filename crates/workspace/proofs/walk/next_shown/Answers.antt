use Rattle.workspace.proofs.Untouched.{row_shown, none_shown}
use Rattle.workspace.proofs.walk.next_shown.Goals as goal

pub returns-in-Some : goal.returns-in-Some
returns-in-Some g c =
    row_shown (g.V.RowView.tables c.args.shown.now.view.now) c.args.shown.now.permit.catalogue.now (g.V.RowView.rows c.args.shown.now.view.now) _ _ _ _ _ c.args.shown.now.covered.over c.in-Some.ensures

pub returns-in-None : goal.returns-in-None
returns-in-None g c =
    none_shown (g.V.RowView.tables c.args.shown.now.view.now) c.args.shown.now.permit.catalogue.now (g.V.RowView.rows c.args.shown.now.view.now) _ _ _ c.args.shown.now.covered.over c.in-None.ensures
