use Rattle.std.proofs.Common.{Some, None}
use Rattle.workspace.proofs.Untouched.{stop_at, skip_at, none_at}
use Rattle.workspace.proofs.walk.next_untouched.Goals as goal

pub returns-then-not-contains_key : goal.returns-then-not-contains_key
returns-then-not-contains_key g c =
    c.loop-key.invariant (Some c.new-name.result.key)
    (stop_at c.args.shown.now.permit.catalogue.now c.args.space.now.writes.entries (g.V.RowView.rows c.args.shown.now.view.now) _ _ _ c.in-Some.key c.new-name.result c.new-name.ensures c.in-Some.ensures c.if-not-contains_key.ensures)

pub loop-key-preserved : goal.loop-key-preserved
loop-key-preserved g c = λ r h.
    c.loop-key.invariant r
    (skip_at c.args.shown.now.permit.catalogue.now c.args.space.now.writes.entries (g.V.RowView.rows c.args.shown.now.view.now) _ _ _ c.in-Some.key c.new-name.result r c.new-name.ensures c.in-Some.ensures c.if-not-contains_key.ensures h)

pub returns : goal.returns
returns g c =
    c.loop-key.invariant None (none_at c.args.shown.now.permit.catalogue.now c.args.space.now.writes.entries (g.V.RowView.rows c.args.shown.now.view.now) _ _ c.loop-key.at c.in_default.ensures)
