-- Of the code: invariants and steps; no promise rests on these words.
-- What the shelves of a store and of a loan represent, and what holds of them.
use Rattle.std.specs.Prelude.{◌≡◌, ℕ, true, false, List, map, Option, Some, option_map}
use Rattle.std.specs.Ordering.{nat_cmp}
use Rattle.std.specs.BTreeMap.{BTreeMap, get}
use Rattle.std.specs.FinMap.{FinMap, from_entries}
use Rattle.std.specs.declared.snapshot.Snapshot.{Snapshot}
use Rattle.values.specs.declared.name.RowName.{RowName}
use Rattle.catalogue.specs.Shapes.{TableShape}
use Rattle.proclang_types.specs.declared.right.Right.TheVariants.{Write}
use Rattle.footprint.specs.declared.resource.Resource.{Resource}
use Rattle.coarsen.specs.Subtrees.{Requests}
use Rattle.coarsen.specs.Plans.{IsWellFormed, IsPlanOver}
use Rattle.coarsen.specs.Clashes.{locks_row, ModesClash}
use Rattle.shelves.specs.Places.{Shelves, has_shelf, is_away, has_place, among, is_named}
use Rattle.shelves.specs.Shelving.{shelf_of}
use Rattle.row_store.specs.Locked.{locks_shelf, locks_itself}
use Rattle.shelves.specs.Rows.{found}

-- the plans that are lent, by their numbers
abbrev pub lent_at : BTreeMap ℕ (Snapshot Requests) → ℕ → Option Requests
lent_at lent number = option_map (λ (plan : Snapshot Requests). plan.value) (get nat_cmp lent number)

abbrev pub lent_of : BTreeMap ℕ (Snapshot Requests) → FinMap nat_cmp Requests
lent_of lent = from_entries (map {B = ℕ × Requests} (λ e. (e.0, e.1.value)) lent.entries)

-- What holds of a store: a row that isn't lent to be written is here; what is lent to be written has its shelf, which
-- is the only one that may be away, or its place; and no two plans that are lent are in conflict.
pub record IsRowStore (tables : List TableShape) (shelves : Shelves) (lent : BTreeMap ℕ (Snapshot Requests))
    : Type 0 where
  pub here : (name : RowName)
      → ((number : ℕ) (plan : Requests) → lent_at lent number ≡ Some plan → locks_row tables plan name Write ≡ false)
      → (found tables shelves name).row ≡ (found tables shelves name).counts_as
  pub with_shelf : (number : ℕ) (plan : Requests) → lent_at lent number ≡ Some plan → (name : RowName)
      → locks_shelf plan Write (shelf_of tables name) ≡ true → has_shelf shelves (shelf_of tables name) ≡ true
  pub with_place : (number : ℕ) (plan : Requests) → lent_at lent number ≡ Some plan → (name : RowName)
      → locks_shelf plan Write (shelf_of tables name) ≡ false → locks_itself plan Write name ≡ true
      → has_place shelves (shelf_of tables name) name ≡ true
  pub away : (name : RowName) → is_away shelves (shelf_of tables name) ≡ true
      → (number : ℕ) × (plan : Requests) × (lent_at lent number ≡ Some plan)
      × (locks_shelf plan Write (shelf_of tables name) ≡ true)
  pub sound : (number : ℕ) (plan : Requests) → lent_at lent number ≡ Some plan → IsWellFormed plan
  pub over : (number : ℕ) (plan : Requests) → lent_at lent number ≡ Some plan → IsPlanOver tables plan
  pub apart : (number other : ℕ) (plan others : Requests) → lent_at lent number ≡ Some plan
      → lent_at lent other ≡ Some others
      → (number ≡ other → ⊥) → ModesClash plan others → ⊥

-- What holds of a loan that has shelves: what it gives back are the shelves and the row names that the plan locks to
-- write, all of them have their place in it, and all its rows and shelves are here.
pub record IsLoan (tables : List TableShape) (plan : Requests) (shelves : Shelves) (at : List Resource)
    (names : List RowName) : Type 0 where
  pub over : IsPlanOver tables plan
  pub written_shelves : (name : RowName)
      → among at (shelf_of tables name) ≡ locks_shelf plan Write (shelf_of tables name)
  pub written_names : (name : RowName) → is_named names name ≡ locks_itself plan Write name
  pub with_shelf : (name : RowName) → among at (shelf_of tables name) ≡ true
      → has_shelf shelves (shelf_of tables name) ≡ true
  pub with_place : (name : RowName) → among at (shelf_of tables name) ≡ false → is_named names name ≡ true
      → has_place shelves (shelf_of tables name) name ≡ true
  pub here : (name : RowName) → (found tables shelves name).row ≡ (found tables shelves name).counts_as
  pub whole : (name : RowName) → is_away shelves (shelf_of tables name) ≡ false
