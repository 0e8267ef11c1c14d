use Rattle.std.proofs.Common.{◌≡◌, arith, length, subst, sym}
use Rattle.row_text.specs.Feeding.{IsFed}
use Rattle.row_text.specs.Texts.{row_lines, row_text}
use Rattle.row_text.proofs.MergedRows.{first_tables, no_tables, table_more}
use Rattle.row_text.proofs.rows_in_order.row_text_digest.Goals as goal

pub loop-place-init : goal.loop-place-init
loop-place-init g c = subst (IsFed c.new-feed.result) (sym (no_tables c.args.catalogue.now (g.V.RowView.rows c.args.view.now))) c.new-feed.ensures

pub loop-place-preserved : goal.loop-place-preserved
loop-place-preserved g c =
    subst (IsFed c.feed_table.new.feed) (table_more c.args.catalogue.now (g.V.RowView.rows c.args.view.now) c.loop-place.place)
    (rw c.new.ensures at (c.in_ok-feed_table.ensures _ c.loop-place.invariant))

pub returns : goal.returns
returns g c =
    let all : c.loop-place.place ≡ length c.args.catalogue.now = omega (arith, c.len-place-end.ensures.len) in
    c.digest.ensures (row_text c.args.catalogue.now (g.V.RowView.rows c.args.view.now))
    (subst (λ n. IsFed c.loop-place.feed (row_lines c.args.catalogue.now (first_tables n (g.V.RowView.rows c.args.view.now)))) all c.loop-place.invariant)
