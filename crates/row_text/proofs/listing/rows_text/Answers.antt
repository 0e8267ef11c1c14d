use Rattle.std.proofs.Common.{◌≡◌, ◌∙◌, ◌++◌, ap, arith, length, subst, sym}
use Rattle.row_text.specs.Merge.{rows_of}
use Rattle.row_text.specs.Texts.{row_lines}
use Rattle.row_text.proofs.MergedRows.{first_tables, no_tables, table_more}
use Rattle.row_text.proofs.listing.rows_text.Goals as goal

pub loop-place-init : goal.loop-place-init
loop-place-init g c = c.new-text.ensures.items ∙ sym (no_tables c.args.catalogue.now (g.V.RowView.rows c.args.view.now))

pub loop-place-preserved : goal.loop-place-preserved
loop-place-preserved g c =
    (rw c.new.ensures at c.in_ok-push_table.ensures) ∙ ap (λ text. text ++ row_lines c.args.catalogue.now (rows_of c.loop-place.place (g.V.RowView.rows c.args.view.now))) c.loop-place.invariant
    ∙ table_more c.args.catalogue.now (g.V.RowView.rows c.args.view.now) c.loop-place.place

pub returns : goal.returns
returns g c =
    let all : c.loop-place.place ≡ length c.args.catalogue.now = omega (arith, c.len-place-end.ensures.len) in
    subst (λ n. c.loop-place.text.items ≡ row_lines c.args.catalogue.now (first_tables n (g.V.RowView.rows c.args.view.now))) all c.loop-place.invariant
