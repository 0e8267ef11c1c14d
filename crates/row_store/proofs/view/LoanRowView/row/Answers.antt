use Rattle.std.proofs.Common.{sym, ap, subst, ◌∙◌}
use Rattle.std.specs.FinMap as finite
use Rattle.values.specs.declared.name.RowName.{RowName}
use Rattle.footprint.specs.declared.resource.Resource.{Resource}
use Rattle.row_store.specs.declared.held.Holdings.{Holdings}
use Rattle.row_store.specs.declared.held.Holdings.TheVariants.{Shelves}
use Rattle.row_store.specs.Stock.{Lent}
use Rattle.shelves.specs.Places.{seen_at}
use Rattle.shelves.specs.Shelving.{shelf_of}
use Rattle.row_store.specs.Held.{row_by_name, rows_held, IsLoanOf}
use Rattle.row_store.proofs.ByName.{get-rows_by_name}
use Rattle.shelves.proofs.Rows.{get-rows_of}
use Rattle.row_store.proofs.view.LoanRowView.row.Goals as goal

pub returns-in-Rows : goal.returns-in-Rows
returns-in-Rows c =
    let name : RowName = record { table = c.args.table; key = c.args.key } in
    c.row.ensures ∙ ap (row_by_name c.in-Rows.held) c.new-name.ensures
    ∙ sym (get-rows_by_name c.in-Rows.held name)
    ∙ ap (λ (h : Holdings). finite.get (rows_held c.self.inside.catalogue h) name) (sym c.in-Rows.is)
    ∙ ap (λ (l : Lent). finite.get l.rows name) c.self.view_is

pub returns-in-Shelves : goal.returns-in-Shelves
returns-in-Shelves c =
    let name : RowName = record { table = c.args.table; key = c.args.key } in
    let loan : IsLoanOf c.self.inside.catalogue c.self.inside.plan.value (Shelves c.in-Shelves.held) =
    subst (λ (h : Holdings). IsLoanOf c.self.inside.catalogue c.self.inside.plan.value h) c.in-Shelves.is c.self.invariant in
    c.row_at.ensures
    ∙ ap (λ (d : Resource). (seen_at c.in-Shelves.held.shelves d c.new-name.result).row) c.shelf_of.ensures
    ∙ ap (λ (q : RowName). (seen_at c.in-Shelves.held.shelves (shelf_of c.self.inside.catalogue q) q).row) c.new-name.ensures
    ∙ loan.here name
    ∙ sym (get-rows_of c.self.inside.catalogue c.in-Shelves.held.shelves name)
    ∙ ap (λ (h : Holdings). finite.get (rows_held c.self.inside.catalogue h) name) (sym c.in-Shelves.is)
    ∙ ap (λ (l : Lent). finite.get l.rows name) c.self.view_is
