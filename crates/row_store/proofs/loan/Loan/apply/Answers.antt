use Rattle.std.proofs.Common.{sym, ap, subst, ◌∙◌}
use Rattle.std.specs.BTreeMap as tree
use Rattle.values.specs.Database.{Database, name_cmp}
use Rattle.proclang_types.specs.declared.right.Right.TheVariants.{Write}
use Rattle.coarsen.specs.Clashes.{locks_row}
use Rattle.workspace.specs.Overlay.{applied}
use Rattle.row_store.specs.declared.loan.Loan.TheInside.{Inside}
use Rattle.row_store.specs.declared.held.Holdings.{Holdings}
use Rattle.row_store.specs.declared.held.Holdings.TheVariants.{Rows, Shelves}
use Rattle.row_store.specs.Stock.{Lent}
use Rattle.shelves.specs.Shelving.{shelf_of}
use Rattle.row_store.specs.Held.{rows_held, IsLoanOf}
use Rattle.shelves.proofs.Rows.{same_rows, rows_written}
use Rattle.row_store.proofs.Kept.{on_err, loan_written}
use Rattle.row_store.proofs.ByName.{written_alone, loan_rows_written, named_rows_written}
use Rattle.row_store.proofs.loan.Loan.apply.Goals.{in-Rows+in_ok-apply-in-Rows, in-Shelves+in_ok-write-in-Shelves}
use Rattle.row_store.proofs.loan.Loan.apply.Goals as goal

pub apply-requires : goal.apply-requires
apply-requires c = λ q h.
    let loan : IsLoanOf c.self.inside.catalogue c.self.inside.plan.value (Rows c.in-Rows.held) =
    subst (λ (x : Holdings). IsLoanOf c.self.inside.catalogue c.self.inside.plan.value x) c.in-Rows.is c.self.invariant in
    loan.written q ∙ sym (written_alone c.self.inside.catalogue c.self.inside.plan.value loan.over q (loan.no_shelf q))
    ∙ ap (λ (l : Lent). locks_row l.tables l.plan q Write) c.self.view_is ∙ c.requires q h

pub returns-in_err-write-in-Shelves-clause-err : goal.returns-in_err-write-in-Shelves-clause-err
returns-in_err-write-in-Shelves-clause-err c =
    let rows = same_rows c.self.inside.catalogue c.in-Shelves.held.shelves c.write.new.shelves (λ q. ap (λ p. p.counts_as) (c.in_err-write-in-Shelves.ensures.err (shelf_of c.self.inside.catalogue q) q)) in
    on_err c.from_residual-in_err-write-in-Shelves.result _
    (ap (λ (r : Database). record { tables = c.self.inside.catalogue; plan = c.self.inside.plan.value; rows = r })
    (rows ∙ ap (rows_held c.self.inside.catalogue) (sym c.in-Shelves.is)) ∙ c.self.view_is)

pub invariant_of-self-2 : goal.invariant_of-self-2
invariant_of-self-2 c = elim c.match-self.branch [
  | in-Rows+in_ok-apply-in-Rows w ↦
      let loan : IsLoanOf c.self.inside.catalogue c.self.inside.plan.value (Rows w.in-Rows.held) =
      subst (λ (x : Holdings). IsLoanOf c.self.inside.catalogue c.self.inside.plan.value x) w.in-Rows.is c.self.invariant in
      subst (λ (i : Inside). IsLoanOf i.catalogue i.plan.value i.held) (sym w.self-inside-is)
      (loan_rows_written c.self.inside.catalogue c.self.inside.plan.value w.in-Rows.held w.apply.new.self w.apply.ensures.names loan)
  | in-Shelves+in_ok-write-in-Shelves w ↦
      let loan : IsLoanOf c.self.inside.catalogue c.self.inside.plan.value (Shelves w.in-Shelves.held) =
      subst (λ (x : Holdings). IsLoanOf c.self.inside.catalogue c.self.inside.plan.value x) w.in-Shelves.is c.self.invariant in
      subst (λ (i : Inside). IsLoanOf i.catalogue i.plan.value i.held) (sym w.self-inside-is)
      (loan_written c.self.inside.catalogue c.self.inside.plan.value w.in-Shelves.held.shelves w.write.new.shelves w.in-Shelves.held.written_shelves.items w.in-Shelves.held.written_names.items
      (λ q. tree.get name_cmp c.args.writes q) w.in_ok-write-in-Shelves.ensures.seen w.write.ensures.kept w.write.ensures.shelves w.write.ensures.away loan)
]

pub returns-clause-rows : goal.returns-clause-rows
returns-clause-rows c = elim c.match-self.branch [
  | in-Rows+in_ok-apply-in-Rows w ↦
      ap (λ (i : Inside). rows_held i.catalogue i.held) w.self-inside-is
      ∙ named_rows_written w.in-Rows.held w.apply.new.self c.args.writes (ap (λ v. v.items) w.apply.ensures.read) w.in_ok-apply-in-Rows.ensures.rows
      ∙ ap (λ (h : Holdings). applied c.args.writes.entries (rows_held c.self.inside.catalogue h)) (sym w.in-Rows.is)
      ∙ ap (λ (l : Lent). applied c.args.writes.entries l.rows) c.self.view_is
  | in-Shelves+in_ok-write-in-Shelves w ↦
      ap (λ (i : Inside). rows_held i.catalogue i.held) w.self-inside-is
      ∙ rows_written c.self.inside.catalogue w.in-Shelves.held.shelves w.write.new.shelves c.args.writes w.in_ok-write-in-Shelves.ensures.seen
      ∙ ap (λ (h : Holdings). applied c.args.writes.entries (rows_held c.self.inside.catalogue h)) (sym w.in-Shelves.is)
      ∙ ap (λ (l : Lent). applied c.args.writes.entries l.rows) c.self.view_is
]
