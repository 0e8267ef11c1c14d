-- Claimed: what contracts promise to a reader rests on these words.
-- Laws of what is lent.
use Rattle.std.specs.Prelude.{◌≡◌, ℕ, true, false, List, Some}
use Rattle.std.specs.Ordering.{nat_cmp}
use Rattle.std.specs.FinMap.{FinMap, empty, get}
use Rattle.values.specs.declared.name.RowName.{RowName}
use Rattle.catalogue.specs.Shapes.{TableShape}
use Rattle.proclang_types.specs.declared.right.Right.TheVariants.{Read, Write}
use Rattle.coarsen.specs.Subtrees.{Requests}
use Rattle.coarsen.specs.Plans.{IsWellFormed}
use Rattle.coarsen.specs.Clashes.{locks_row, ModesClash}
use Rattle.row_store.specs.Stock.{is_free}

-- where nothing is lent, every name is free
abbrev pub AllIsFree : Type 0
AllIsFree = (tables : List TableShape) (lent : FinMap nat_cmp Requests) → lent ≡ empty → (name : RowName)
    → is_free tables lent name ≡ true

-- where no plan that is lent is in conflict with a plan, every name that the plan locks is free
abbrev pub FreeWhereApart : Type 0
FreeWhereApart =
    (tables : List TableShape) (lent : FinMap nat_cmp Requests) (plan : Requests) → IsWellFormed plan
    → ((number : ℕ) (other : Requests) → get lent number ≡ Some other
    → IsWellFormed other × (ModesClash other plan → ⊥))
    → (name : RowName) → locks_row tables plan name Read ≡ true → is_free tables lent name ≡ true

-- a row name that a plan which is lent locks to write is that loan's alone: it is not free,
-- and no other plan that is lent locks it
abbrev pub AreLentAlone : List TableShape → FinMap nat_cmp Requests → Type 0
AreLentAlone tables lent =
    (number : ℕ) (plan : Requests) → get lent number ≡ Some plan → (name : RowName)
    → locks_row tables plan name Write ≡ true
    → (is_free tables lent name ≡ false)
    × ((other : ℕ) (others : Requests) → get lent other ≡ Some others → (number ≡ other → ⊥)
    → locks_row tables others name Read ≡ false)
