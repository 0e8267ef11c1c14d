-- A loan that goes back as it was lent leaves the store as it was.
use Rattle.std.proofs.Common.{◌≡◌, ◌≤◌, ℕ, nat_le, true, false, Some, None, List, refl, sym, ap, ◌∙◌, arith, if◌then◌else◌, inl, inr}
use Rattle.std.proofs.lemmas.Bool.Decides.{nat_tests}
use Rattle.std.specs.FinMap.{FinMap, get, insert, remove, same_map, nat_cmp-IsAntisymmetric}
use Rattle.std.specs.Cmp.{nat_cmp_total}
use Rattle.std.specs.Ordering.{nat_cmp}
use Rattle.values.specs.declared.name.RowName.{RowName}
use Rattle.values.specs.Database.{Database}
use Rattle.catalogue.specs.Shapes.{TableShape}
use Rattle.footprint.specs.Tree.{row_resource}
use Rattle.proclang_types.specs.declared.right.Right.TheVariants.{Read, Write}
use Rattle.coarsen.specs.Subtrees.{Requests, own_over}
use Rattle.coarsen.specs.Clashes.{locks_row}
use Rattle.row_store.specs.Stock.{Stock, Lent}
use Rattle.scheduler_core.proofs.Names.{names_total, exact_names}
use Rattle.scheduler.proofs.Numbers.{same_number}
use Rattle.scheduler.proofs.Steps.{inserted, not_inserted, removed, not_removed}

-- what is locked to write is locked to read
one_of : (x : ℕ) → nat_le 2 x ≡ true → nat_le 1 x ≡ true
one_of x e = let m : 2 ≤ x = grind (arith, nat_tests) in grind (arith, nat_tests)

pub read_too : (tables : List TableShape) (plan : Requests) (name : RowName) → locks_row tables plan name Write ≡ true → locks_row tables plan name Read ≡ true
read_too tables plan name e = one_of (own_over plan (row_resource tables name)) e

-- what goes back shows what the store shows
pub same_rows : (tables : List TableShape) (plan : Requests) (old loan new : Database) → ((name : RowName) → locks_row tables plan name Read ≡ true → get loan name ≡ get old name)
    → ((name : RowName) → get new name ≡ (if locks_row tables plan name Write then get loan name else get old name)) → new ≡ old
same_rows tables plan old loan new shows back = same_map names_total exact_names new old (λ name.
    back name ∙ elim (locks_row tables plan name Write) as (λ b. locks_row tables plan name Write ≡ b → (if b then get loan name else get old name) ≡ get old name) [
      | true ↦ λ locked. shows name (read_too tables plan name locked)
      | false ↦ λ _. refl
    ] refl)

-- a number that had no plan has none again
pub same_lent : (lent : FinMap nat_cmp Requests) (number : ℕ) (plan : Requests) → get lent number ≡ None → remove (insert lent number plan) number ≡ lent
same_lent lent number plan none = same_map nat_cmp_total nat_cmp-IsAntisymmetric (remove (insert lent number plan) number) lent (λ i.
    elim (same_number i number) [
      | inl e ↦ ap (get (remove (insert lent number plan) number)) e ∙ removed (insert lent number plan) (remove (insert lent number plan) number) number refl ∙ sym (ap (get lent) e ∙ none)
      | inr n ↦ not_removed (insert lent number plan) (remove (insert lent number plan) number) number refl i n ∙ not_inserted lent (insert lent number plan) number plan refl i n
    ])

-- what a plan locks was lent under a number, and the loan comes back as it was
module _ (old mid : Stock) (number : ℕ) (plan : Requests) (loan back : Lent) (none : get old.lent number ≡ None) (lent : mid.lent ≡ insert old.lent number plan)
    (loan_tables : loan.tables ≡ old.tables) (loan_plan : loan.plan ≡ plan) (same : back ≡ loan) where
  back_tables : back.tables ≡ old.tables
  back_tables = ap (λ (l : Lent). l.tables) same ∙ loan_tables

  back_plan : back.plan ≡ plan
  back_plan = ap (λ (l : Lent). l.plan) same ∙ loan_plan

  pub still_lent : get mid.lent number ≡ Some back.plan
  still_lent = inserted old.lent mid.lent number plan lent ∙ ap Some (sym back_plan)

  -- once it is given back the store is as it was
  pub restored : (new : Stock) → ((name : RowName) → locks_row old.tables plan name Read ≡ true → get loan.rows name ≡ get old.rows name) → mid.tables ≡ old.tables → mid.rows ≡ old.rows → new.tables ≡ mid.tables
      → ((name : RowName) → get new.rows name ≡ (if locks_row back.tables back.plan name Write then get back.rows name else get mid.rows name)) → new.lent ≡ remove mid.lent number → new ≡ old
  restored new shows tables rows new_tables new_rows new_lent =
      let shown : (name : RowName) → locks_row old.tables plan name Read ≡ true → get back.rows name ≡ get old.rows name = λ name locked. ap (λ (l : Lent). get l.rows name) same ∙ shows name locked in
      let seen : (name : RowName) → get new.rows name ≡ (if locks_row old.tables plan name Write then get back.rows name else get old.rows name) = λ name.
      new_rows name
      ∙ ap (λ (x : List TableShape × (Requests × Database)). if locks_row x.0 x.1.0 name Write then get back.rows name else get x.1.1 name) (λ i. (back_tables i, (back_plan i, rows i))) in
      let d : new.rows ≡ old.rows = same_rows old.tables plan old.rows back.rows new.rows shown seen in
      let l : new.lent ≡ old.lent = new_lent ∙ ap (λ (m : FinMap nat_cmp Requests). remove m number) lent ∙ same_lent old.lent number plan none in
      λ i. record { tables = (new_tables ∙ tables) i; rows = d i; lent = l i }
