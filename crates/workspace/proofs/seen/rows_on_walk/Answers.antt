use Rattle.std.proofs.Common.{rules, ◌≡◌, ◌++◌, ◌∷◌, [], ℕ, Option, Some, subst, sym, ap, ◌∙◌}
use Rattle.std.specs.FinMap.{get}
use Rattle.std.specs.Borrow.{Bor}
use Rattle.values.specs.declared.name.RowName.{RowName}
use Rattle.values.specs.Database.{RowOf}
use Rattle.workspace.specs.Overlay.{applied}
use Rattle.workspace.specs.Scan.{by_key, referred, rows_in_part}
use Rattle.workspace.specs.Walks.{rows_ahead}
use Rattle.workspace.proofs.Counts.{rows_pushed, rows_left}
use Rattle.workspace.proofs.seen.rows_on_walk.Goals as goal

pub loop-key-preserved : goal.loop-key-preserved
loop-key-preserved g c =
    let tables = c.args.shown.now.permit.catalogue.now in
    let db = applied c.args.space.now.writes.entries (g.V.RowView.rows c.args.shown.now.view.now) in
    let key = c.in-Some.key in
    let row : Bor RowOf = c.in-Some-row_seen.row in
    let same : ◌≡◌ {A = RowName} c.new-name.result (record { table = c.args.table; key = key }) = c.new-name.ensures in
    let there : get db (record { table = c.args.table; key = key }) ≡ Some row.now = ap (get db) (sym same) ∙ sym c.in-Some-row_seen.ensures in
    let pushed : c.push.new.self.items ≡ c.loop-key.rows.items ++ (key, row) ∷ [] = search rules in
    record {
      walk = c.in-Some.ensures.walk;
      all =
          subst (λ (o : Option ℕ). referred c.push.new.self.items ++ by_key (rows_ahead tables c.args.table c.args.part o db) ≡ rows_in_part tables c.args.table c.args.part db) (sym c.in-Some.ensures.after)
          (rows_pushed tables db c.args.table c.args.part c.loop-key.walk.after key row c.loop-key.rows.items c.push.new.self.items _ c.in-Some.ensures.next there pushed c.loop-key.invariant.all);
    }

pub returns : goal.returns
returns g c =
    let tables = c.args.shown.now.permit.catalogue.now in
    let db = applied c.args.space.now.writes.entries (g.V.RowView.rows c.args.shown.now.view.now) in
    rows_left tables db c.args.table c.args.part c.loop-key.walk.after c.loop-key.rows.items _ c.in_default.ensures.next c.loop-key.invariant.all
