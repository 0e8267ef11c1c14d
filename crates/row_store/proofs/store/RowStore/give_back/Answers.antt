use Rattle.std.proofs.Common.{◌≡◌, List, Some, None, if◌then◌else◌, sym, ap, subst, ◌∙◌}
use Rattle.std.specs.FinMap as finite
use Rattle.catalogue.specs.Shapes.{TableShape}
use Rattle.coarsen.specs.Subtrees.{Requests}
use Rattle.coarsen.specs.Clashes.{locks_row}
use Rattle.proclang_types.specs.declared.right.Right.TheVariants.{Write}
use Rattle.row_store.specs.Stock.{Stock, Lent}
use Rattle.row_store.specs.Held.{rows_held, IsLoanOf}
use Rattle.shelves.specs.Rows.{rows_of}
use Rattle.row_store.specs.Views.{lent_at}
use Rattle.row_store.specs.Forgetting.{gives_on}
use Rattle.row_store.proofs.Forgotten.{not_given, still_kept}
use Rattle.row_store.proofs.Numbers.{get-lent_of, lent_put, lent_removed}
use Rattle.row_store.proofs.Incoming.{can_go_back, store_back, rows_given}
use Rattle.row_store.proofs.store.RowStore.give_back.Goals as goal

pub put_back-requires : goal.put_back-requires
put_back-requires c =
    let tables : c.loan.inside.catalogue ≡ c.self.inside.catalogue = ap (λ (l : Lent). l.tables) c.loan.view_is ∙ c.requires.tables ∙ sym (ap (λ (s : Stock). s.tables) c.self.view_is) in
    let plan : Requests = c.loan.inside.plan.value in
    let loan = subst (λ (t : List TableShape). IsLoanOf t plan c.loan.inside.held) tables c.loan.invariant in
    let out : lent_at c.self.inside.lent c.args.no ≡ Some plan =
    sym (get-lent_of c.self.inside.lent c.args.no) ∙ ap (λ (s : Stock). finite.get s.lent c.args.no) c.self.view_is ∙ c.requires.lent ∙ ap (λ (l : Lent). Some l.plan) (sym c.loan.view_is) in
    can_go_back c.self.inside.catalogue plan c.self.inside.shelves c.loan.inside.held c.self.inside.lent c.args.no loan out c.self.invariant.0

pub invariant_of-self : goal.invariant_of-self
invariant_of-self c =
    let tables : c.loan.inside.catalogue ≡ c.self.inside.catalogue = ap (λ (l : Lent). l.tables) c.loan.view_is ∙ c.requires.tables ∙ sym (ap (λ (s : Stock). s.tables) c.self.view_is) in
    let plan : Requests = c.loan.inside.plan.value in
    let loan = subst (λ (t : List TableShape). IsLoanOf t plan c.loan.inside.held) tables c.loan.invariant in
    let out : lent_at c.self.inside.lent c.args.no ≡ Some plan =
    sym (get-lent_of c.self.inside.lent c.args.no) ∙ ap (λ (s : Stock). finite.get s.lent c.args.no) c.self.view_is ∙ c.requires.lent ∙ ap (λ (l : Lent). Some l.plan) (sym c.loan.view_is) in (
      store_back c.self.inside.catalogue plan c.self.inside.shelves c.put_back.new.shelves c.loan.inside.held c.self.inside.lent c.remove.new.self c.args.no
          c.put_back.ensures.back c.put_back.ensures.shelves loan out
          (lent_put c.self.inside.lent c.remove.new.self c.args.no None c.remove.ensures.updates.0) c.locked_rows_conflict.ensures c.self.invariant.0,
      still_kept c.self.inside.catalogue (rows_of c.self.inside.catalogue c.self.inside.shelves) (rows_of c.self.inside.catalogue c.put_back.new.shelves) c.self.inside.kept c.forget_given.new.kept
          (gives_on c.self.inside.catalogue c.loan.inside.held) c.forget_given.ensures
          (λ q off.
          rows_given c.self.inside.catalogue plan c.self.inside.shelves c.put_back.new.shelves c.loan.inside.held c.self.inside.lent c.args.no c.put_back.ensures.back loan out c.self.invariant.0 q
          ∙ ap (λ b. if b then finite.get (rows_held c.self.inside.catalogue c.loan.inside.held) q else finite.get (rows_of c.self.inside.catalogue c.self.inside.shelves) q) (not_given c.self.inside.catalogue plan c.loan.inside.held loan q off))
          c.self.invariant.1,
      tt,
    )

pub returns-clause-rows : goal.returns-clause-rows
returns-clause-rows c = λ q.
    let tables : c.loan.inside.catalogue ≡ c.self.inside.catalogue = ap (λ (l : Lent). l.tables) c.loan.view_is ∙ c.requires.tables ∙ sym (ap (λ (s : Stock). s.tables) c.self.view_is) in
    let plan : Requests = c.loan.inside.plan.value in
    let loan = subst (λ (t : List TableShape). IsLoanOf t plan c.loan.inside.held) tables c.loan.invariant in
    let out : lent_at c.self.inside.lent c.args.no ≡ Some plan =
    sym (get-lent_of c.self.inside.lent c.args.no) ∙ ap (λ (s : Stock). finite.get s.lent c.args.no) c.self.view_is ∙ c.requires.lent ∙ ap (λ (l : Lent). Some l.plan) (sym c.loan.view_is) in
    rows_given c.self.inside.catalogue plan c.self.inside.shelves c.put_back.new.shelves c.loan.inside.held c.self.inside.lent c.args.no c.put_back.ensures.back loan out c.self.invariant.0 q
    ∙ ap (λ (t : List TableShape). if locks_row t plan q Write then finite.get (rows_held t c.loan.inside.held) q else finite.get (rows_of c.self.inside.catalogue c.self.inside.shelves) q) (sym tables)
    ∙ ap (λ (l : Lent). if locks_row l.tables l.plan q Write then finite.get l.rows q else finite.get (rows_of c.self.inside.catalogue c.self.inside.shelves) q) c.loan.view_is
    ∙ ap (λ (s : Stock). if locks_row c.args.loan.tables c.args.loan.plan q Write then finite.get c.args.loan.rows q else finite.get s.rows q) c.self.view_is

pub returns-clause-lent : goal.returns-clause-lent
returns-clause-lent c =
    lent_removed c.self.inside.lent c.remove.new.self c.args.no (lent_put c.self.inside.lent c.remove.new.self c.args.no None c.remove.ensures.updates.0)
    ∙ ap (λ (s : Stock). finite.remove s.lent c.args.no) c.self.view_is
