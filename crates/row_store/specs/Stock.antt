-- Claimed: what contracts promise to a reader rests on these words.
-- What a row store and a loan hold.
use Rattle.std.specs.Prelude.{◌≡◌, Bool, true, not, List}
use Rattle.std.specs.List.{list_any}
use Rattle.std.specs.Coded.{Coded, code_by, coded×, coded_ℕ, coded_list}
use Rattle.std.specs.Ordering.{nat_cmp}
use Rattle.std.specs.FinMap.{FinMap, code, get, entries}
use Rattle.std.proofs.Common.{refl}
use Rattle.values.specs.declared.name.RowName.{RowName}
use Rattle.values.specs.contracts.value.Value as value
use Rattle.values.specs.contracts.name.RowName as row_name
use Rattle.catalogue.specs.contracts.catalogue.Catalogue as catalogue
use Rattle.catalogue.specs.Shapes.{TableShape}
use Rattle.values.specs.Database.{Database}
use Rattle.proclang_types.specs.declared.right.Right.TheVariants.{Read, Write}
use Rattle.footprint.specs.contracts.resource.Resource as resource
use Rattle.modes.specs.contracts.mode.Mode as mode
use Rattle.coarsen.specs.Subtrees.{Requests}
use Rattle.coarsen.specs.Clashes.{locks_row}
pub use Rattle.shelves.specs.Rows.{with_rows}

-- the rows of a database over tables, those that are lent counting as they were lent, and
-- to which numbers which plans are lent
pub record Stock : Type 0 where
  pub tables : List TableShape
  pub rows : Database
  pub lent : FinMap nat_cmp Requests

-- the plan that was lent, and rows. What the rows are at names that the plan doesn't lock is nobody's business
pub record Lent : Type 0 where
  pub tables : List TableShape
  pub plan : Requests
  pub rows : Database

-- no plan that is lent locks the row name to write: what a store shows
abbrev pub is_free : List TableShape → FinMap nat_cmp Requests → RowName → Bool
is_free tables lent name = not (list_any (λ e. locks_row tables e.1 name Write) (entries lent))

abbrev pub rows_code : Coded Database
rows_code = code row_name.the_row.coded (coded_list value.the_row.coded)

abbrev pub plan_code : Coded Requests
plan_code = coded_list (coded× resource.the_row.coded mode.the_row.coded)

abbrev pub plans_code : Coded (FinMap nat_cmp Requests)
plans_code = code coded_ℕ plan_code

abbrev pub stock_code : Coded Stock
stock_code =
    code_by (List TableShape × (Database × FinMap nat_cmp Requests))
    (coded× catalogue.the_row.coded (coded× rows_code plans_code))
    (λ s. (s.tables, (s.rows, s.lent))) (λ p. record { tables = p.0; rows = p.1.0; lent = p.1.1 }) (λ _. refl)

abbrev pub lent_code : Coded Lent
lent_code =
    code_by (List TableShape × (Requests × Database)) (coded× catalogue.the_row.coded (coded× plan_code rows_code))
    (λ l. (l.tables, (l.plan, l.rows))) (λ p. record { tables = p.0; plan = p.1.0; rows = p.1.1 }) (λ _. refl)

-- a loan of the rows that a plan locks, as the store has them
pub record IsLoanFrom (stock : Stock) (plan : Requests) (loan : Lent) : Type 0 where
  pub tables : loan.tables ≡ stock.tables
  pub of_plan : loan.plan ≡ plan
  pub rows : (name : RowName) → locks_row stock.tables plan name Read ≡ true → get loan.rows name ≡ get stock.rows name
