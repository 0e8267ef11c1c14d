use Rattle.std.proofs.Common.{◌≡◌, arith, length, subst, IfOk}
use Rattle.std.specs.List.{AllByRecursion}
use Rattle.row_text.proofs.MergedRows.{first_tables}
use Rattle.rows_document.specs.Listing.{Lists}
use Rattle.rows_document.specs.Said.{IsHeldRow}
use Rattle.rows_document.proofs.Listed.{always, held_append, listed, no_tables, table_more}
use Rattle.rows_document.proofs.document.document_text.Goals as goal

pub loop-place-init : goal.loop-place-init
loop-place-init g c = record {
  listed = subst (λ rows. Lists c.args.catalogue.now rows c.in_ok-listing.listing) (no_tables (g.V.RowView.rows c.args.view.now)) (c.in_ok-listing.ensures c.args.catalogue.now);
  held = subst (AllByRecursion IsHeldRow) (no_tables (g.V.RowView.rows c.args.view.now)) tt;
}

pub loop-place-preserved : goal.loop-place-preserved
loop-place-preserved g c = record {
  listed = subst (λ rows. Lists c.args.catalogue.now rows c.push_table.new.listing) (table_more c.loop-place.place (g.V.RowView.rows c.args.view.now))
      (rw c.new-in-loop-place.ensures at (c.in_ok-push_table.ensures.listed _ c.loop-place.invariant.listed));
  held = subst (AllByRecursion IsHeldRow) (table_more c.loop-place.place (g.V.RowView.rows c.args.view.now))
      (held_append _ _ c.loop-place.invariant.held (rw c.new-in-loop-place.ensures at c.in_ok-push_table.ensures.held));
}

pub returns-clause-text : goal.returns-clause-text
returns-clause-text g c =
    let all : c.loop-place.place ≡ length c.args.catalogue.now = omega (arith, c.len-place-end.ensures.len) in
    subst (λ text. IfOk c.end.result (λ t. t.items ≡ text)) (listed c.args.catalogue.now (g.V.RowView.rows c.args.view.now) c.loop-place.listing c.loop-place.place all c.loop-place.invariant.listed) c.end.ensures

pub returns-clause-held : goal.returns-clause-held
returns-clause-held g c =
    let all : c.loop-place.place ≡ length c.args.catalogue.now = omega (arith, c.len-place-end.ensures.len) in
    always c.end.result (subst (λ n. AllByRecursion IsHeldRow (first_tables n (g.V.RowView.rows c.args.view.now))) all c.loop-place.invariant.held)
