use Rattle.std.proofs.Common.{◌++◌, OnOk, ap, subst, ◌∙◌}
use Rattle.std.specs.List.{AllByRecursion}
use Rattle.workspace.specs.Scan.{referred}
use Rattle.rows_document.specs.Listing.{Lists}
use Rattle.rows_document.specs.Said.{IsHeldRow}
use Rattle.rows_document.proofs.Listed.{named_are}
use Rattle.rows_document.proofs.document.push_table.Goals as goal

pub returns-clause-listed : goal.returns-clause-listed
returns-clause-listed g c = λ before so_far.
    subst (λ rows. OnOk c.push_rows.result (Lists c.args.catalogue.now (before ++ rows) c.push_rows.new.listing))
    (named_are c.args.table (g.V.RowView.rows c.args.view.now) c.deref.result.now (ap referred c.deref.ensures.value ∙ c.in_ok-rows.ensures))
    (c.push_rows.ensures.listed before so_far)

pub returns-clause-held : goal.returns-clause-held
returns-clause-held g c =
    subst (λ rows. OnOk c.push_rows.result (AllByRecursion IsHeldRow rows))
    (named_are c.args.table (g.V.RowView.rows c.args.view.now) c.deref.result.now (ap referred c.deref.ensures.value ∙ c.in_ok-rows.ensures))
    c.push_rows.ensures.held
