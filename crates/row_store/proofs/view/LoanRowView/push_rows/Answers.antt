use Rattle.std.proofs.Common.{◌≡◌, true, ◌++◌, append-nil, List, OnOk, sym, ap, subst, ◌∙◌}
use Rattle.std.specs.FinMap as finite
use Rattle.values.specs.declared.name.RowName.{RowName}
use Rattle.catalogue.specs.Shapes.{TableShape}
use Rattle.proclang_types.specs.declared.right.Right.TheVariants.{Read}
use Rattle.coarsen.specs.Clashes.{locks_row}
use Rattle.workspace.specs.Scan.{is_in_part, ShowsPart, referred, rows_in_part}
use Rattle.row_store.specs.declared.held.Holdings.{Holdings}
use Rattle.row_store.specs.declared.held.Holdings.TheVariants.{Rows, Shelves}
use Rattle.row_store.specs.Stock.{Lent}
use Rattle.row_store.specs.Held.{rows_held, IsLoanOf}
use Rattle.row_store.proofs.PartsUnseen.{no_part}
use Rattle.shelves.proofs.Rows.{get-rows_of}
use Rattle.shelves.proofs.Gathered.{no_rows}
use Rattle.row_store.proofs.view.LoanRowView.push_rows.Goals as goal

pub returns-in-Rows : goal.returns-in-Rows
returns-in-Rows c =
    let loan : IsLoanOf c.self.inside.catalogue c.self.inside.plan.value (Rows c.in-Rows.field-0) =
    subst (λ (h : Holdings). IsLoanOf c.self.inside.catalogue c.self.inside.plan.value h) c.in-Rows.is c.self.invariant in
    let asked : ShowsPart c.args.self.now.tables (λ q. locks_row c.args.self.now.tables c.args.self.now.plan q Read) c.args.table c.args.part = record { shown = c.requires.shown } in
    let shows : ShowsPart c.self.inside.catalogue (λ q. locks_row c.self.inside.catalogue c.self.inside.plan.value q Read) c.args.table c.args.part =
    subst (λ (l : Lent). ShowsPart l.tables (λ q. locks_row l.tables l.plan q Read) c.args.table c.args.part) (sym c.self.view_is) asked in
    let none : (q : RowName) → is_in_part c.args.self.now.tables c.args.table c.args.part q ≡ true → ⊥ =
    λ q h.
    no_part c.self.inside.catalogue c.self.inside.plan.value c.in-Rows.field-0 loan c.has_ends.ensures c.args.table c.args.part shows q
    (ap (λ (l : Lent). is_in_part l.tables c.args.table c.args.part q) c.self.view_is ∙ h) in
    sym (append-nil (referred c.args.gathered.now.items))
    ∙ ap (λ rows. referred c.args.gathered.now.items ++ rows) (no_rows c.args.self.now.tables c.args.table c.args.part c.args.self.now.rows none)

pub returns-in-Shelves : goal.returns-in-Shelves
returns-in-Shelves c =
    let loan : IsLoanOf c.self.inside.catalogue c.self.inside.plan.value (Shelves c.in-Shelves.held) =
    subst (λ (h : Holdings). IsLoanOf c.self.inside.catalogue c.self.inside.plan.value h) c.in-Shelves.is c.self.invariant in
    subst (λ (t : List TableShape). OnOk c.push_rows.result (referred c.push_rows.new.gathered.items ≡ referred c.args.gathered.now.items ++ rows_in_part t c.args.table c.args.part c.args.self.now.rows)) (ap (λ (l : Lent). l.tables) c.self.view_is)
    (c.push_rows.ensures c.args.self.now.rows (λ q h. sym
    (loan.here q ∙ sym (get-rows_of c.self.inside.catalogue c.in-Shelves.held.shelves q)
    ∙ ap (λ (h : Holdings). finite.get (rows_held c.self.inside.catalogue h) q) (sym c.in-Shelves.is)
    ∙ ap (λ (l : Lent). finite.get l.rows q) c.self.view_is)))
