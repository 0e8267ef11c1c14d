-- Of the code: invariants and steps; no promise rests on these words.
-- What a loan holds: rows by their names, or shelves; and what becomes of it and of a store as it goes out and comes
-- back.
use Rattle.std.specs.Prelude.{◌≡◌, true, false, not, ◌&&◌, ◌||◌, if◌then◌else◌, List, ◌++◌, Option, None, ⊤}
use Rattle.std.specs.Option.{option_or}
use Rattle.values.specs.declared.name.RowName.{RowName}
use Rattle.values.specs.Database.{Database, RowOf}
use Rattle.catalogue.specs.Shapes.{TableShape}
use Rattle.proclang_types.specs.declared.right.Right.TheVariants.{Read, Write}
use Rattle.footprint.specs.declared.resource.Resource.{Resource}
use Rattle.coarsen.specs.Subtrees.{Requests}
use Rattle.coarsen.specs.Plans.{IsPlanOver}
use Rattle.coarsen.specs.Clashes.{locks_row}
use Rattle.row_store.specs.declared.held.HeldRows.{HeldRows}
use Rattle.row_store.specs.declared.held.HeldShelves.{HeldShelves}
use Rattle.row_store.specs.declared.held.Holdings.{Holdings}
use Rattle.row_store.specs.declared.held.Holdings.TheVariants.{Rows, Shelves}
use Rattle.shelves.specs.Places.{Shelves as AllShelves, has_shelf, is_away, has_place, as_it_stands, full, gone, seen_at, written, among, is_named}
use Rattle.shelves.specs.Shelving.{shelf_of, is_end}
use Rattle.row_store.specs.Locked.{locks_shelf, locks_itself}
use Rattle.row_store.specs.Moving.{AreEmptied}
use Rattle.shelves.specs.Exchange.{AreShelvesLent, is_ready}
use Rattle.row_store.specs.Named.{row_in, reads_itself, AreDistinct, AreListed}
use Rattle.shelves.specs.Named.{listed, is_listed, names_listed}
use Rattle.shelves.specs.Rows.{found, rows_at, rows_of}
use Rattle.row_store.specs.Views.{IsLoan}

-- ---- the rows that a loan holds

abbrev pub row_by_name : HeldRows → RowName → Option RowOf
row_by_name held name = row_in (option_or (listed held.written.items name) (listed held.read.items name))

abbrev pub rows_by_name : HeldRows → Database
rows_by_name held = rows_at (row_by_name held) (names_listed held.written.items ++ names_listed held.read.items)

abbrev pub rows_held : List TableShape → Holdings → Database
rows_held tables (Rows held) = rows_by_name held
rows_held tables (Shelves held) = rows_of tables held.shelves

-- What holds of a loan that has its rows by their names: its plan locks no shelf whole and no last name of a partition,
-- and what it gives back are the row names that the plan locks to write, each of which is listed once.
pub record IsLoanByName (tables : List TableShape) (plan : Requests) (held : HeldRows) : Type 0 where
  pub over : IsPlanOver tables plan
  pub no_shelf : (name : RowName) → locks_shelf plan Read (shelf_of tables name) ≡ false
  pub no_end : (name : RowName) → locks_itself plan Read name ≡ true → is_end tables name ≡ false
  pub written : (name : RowName) → is_listed held.written.items name ≡ locks_itself plan Write name
  pub distinct : AreDistinct (names_listed held.written.items)

abbrev pub IsLoanOf : List TableShape → Requests → Holdings → Type 0
IsLoanOf tables plan (Rows held) = IsLoanByName tables plan held
IsLoanOf tables plan (Shelves held) =
    IsLoan tables plan held.shelves held.written_shelves.items held.written_names.items

-- ---- shared

-- the rows that the plan locks are here, on shelves that aren't away
abbrev pub AreHere : List TableShape → Requests → AllShelves → Type 0
AreHere tables plan shelves = (name : RowName) → locks_row tables plan name Read ≡ true
    → ((found tables shelves name).row ≡ (found tables shelves name).counts_as)
    × (is_away shelves (shelf_of tables name) ≡ false)

-- a loan has the shelves that the plan locks whole to read, but for those that will be moved there; they show what the
-- store's show, if those aren't away
abbrev pub AreReadShelves : List TableShape → Requests → List Resource → AllShelves → AllShelves → Type 0
AreReadShelves tables plan moved shelves loan = (name : RowName)
    → (locks_shelf plan Read (shelf_of tables name) ≡ true → is_away shelves (shelf_of tables name) ≡ false)
    → found tables loan name
    ≡ (if locks_shelf plan Read (shelf_of tables name) && not (among moved (shelf_of tables name))
    then found tables shelves name else full None)

-- ---- made ready: what is to be moved is still in the store, and has its place there

-- the row names that the plan locks have the rows at them
pub record AreRowsReady (tables : List TableShape) (plan : Requests) (old new : AllShelves) (held : HeldRows)
    : Type 0 where
  pub no_shelf : (name : RowName) → locks_shelf plan Read (shelf_of tables name) ≡ false
  pub no_end : (name : RowName) → locks_itself plan Read name ≡ true → is_end tables name ≡ false
  pub written : AreListed tables held.written.items (locks_itself plan Write) old
  pub read : AreListed tables held.read.items (reads_itself plan) old
  pub with_place : (name : RowName) → locks_itself plan Write name ≡ true
      → has_place new (shelf_of tables name) name ≡ true
  pub distinct : AreDistinct (names_listed held.written.items)

-- the rows at the names that the plan locks are on shelves, of which none is away, but for those that will be moved
-- there, which have their shelf there
pub record AreShelvesReady (tables : List TableShape) (plan : Requests) (old new : AllShelves)
    (held : HeldShelves) : Type 0 where
  pub with_shelf : (name : RowName) → among held.written_shelves.items (shelf_of tables name) ≡ true
      → has_shelf new (shelf_of tables name) ≡ true
  pub with_place : (name : RowName) → is_named held.written_names.items name ≡ true
      → has_place new (shelf_of tables name) name ≡ true
  pub written_shelves : (name : RowName)
      → among held.written_shelves.items (shelf_of tables name) ≡ locks_shelf plan Write (shelf_of tables name)
  pub written_names : (name : RowName) → is_named held.written_names.items name ≡ locks_itself plan Write name
  pub rows : (name : RowName) → locks_row tables plan name Read ≡ true
      → among held.written_shelves.items (shelf_of tables name) ≡ false
      → found tables held.shelves name ≡ as_it_stands (found tables old name)
  pub here : (name : RowName) → (found tables held.shelves name).row ≡ (found tables held.shelves name).counts_as
  pub held_shelf : (shelf : Resource) → among held.written_shelves.items shelf ≡ true
      → has_shelf held.shelves shelf ≡ true
  pub held_place : (name : RowName) → locks_itself plan Read name ≡ true
      → has_place held.shelves (shelf_of tables name) name ≡ true
  pub whole : (shelf : Resource) → is_away held.shelves shelf ≡ false

abbrev pub IsReady : List TableShape → Requests → AllShelves → AllShelves → Holdings → Type 0
IsReady tables plan old new (Rows held) = AreRowsReady tables plan old new held
IsReady tables plan old new (Shelves held) = AreShelvesReady tables plan old new held

-- ---- taken out of the store: a row that is lent by its name stays there, and counts

-- first the shelves are moved, and then the places of names are emptied
pub record AreShelvesTaken (tables : List TableShape) (old new : AllShelves) (before after : HeldShelves) : Type 0 where
  pub same_shelves : after.written_shelves.items ≡ before.written_shelves.items
  pub same_names : after.written_names.items ≡ before.written_names.items
  pub moved : AllShelves
  pub lent : AreShelvesLent before.written_shelves.items old before.shelves after.shelves
  pub seen : (shelf : Resource) (name : RowName) → seen_at moved shelf name
      ≡ (if among before.written_shelves.items shelf && is_ready old before.shelves shelf
      then gone (seen_at old shelf name) else seen_at old shelf name)
  pub places : (shelf : Resource) (name : RowName) → has_place moved shelf name
      ≡ (if among before.written_shelves.items shelf && is_ready old before.shelves shelf
      then false else has_place old shelf name)
  pub shelves : (shelf : Resource) → has_shelf moved shelf ≡ has_shelf old shelf
  pub away : (shelf : Resource)
      → is_away moved shelf
      ≡ ((among before.written_shelves.items shelf && is_ready old before.shelves shelf) || is_away old shelf)
  pub emptied : AreEmptied tables before.written_names.items moved new
  pub still_places : (shelf : Resource) (name : RowName) → has_place new shelf name ≡ has_place moved shelf name
  pub still_shelves : (shelf : Resource) → has_shelf new shelf ≡ has_shelf moved shelf
  pub still_away : (shelf : Resource) → is_away new shelf ≡ is_away moved shelf

abbrev pub IsTaken : List TableShape → AllShelves → AllShelves → Holdings → Holdings → Type 0
IsTaken tables old new (Rows before) (Rows after) = (after ≡ before) × (new ≡ old)
IsTaken tables old new (Rows before) (Shelves after) = ⊥
IsTaken tables old new (Shelves before) (Rows after) = ⊥
IsTaken tables old new (Shelves before) (Shelves after) = AreShelvesTaken tables old new before after

-- ---- put back

abbrev pub CanGoBack : List TableShape → AllShelves → Holdings → Type 0
CanGoBack tables shelves (Rows held) =
    ((name : RowName) → is_listed held.written.items name ≡ true → has_place shelves (shelf_of tables name) name ≡ true)
    × AreDistinct (names_listed held.written.items)
CanGoBack tables shelves (Shelves held) = ⊤

pub record AreRowsBack (tables : List TableShape) (old new : AllShelves) (held : HeldRows) : Type 0 where
  pub seen : (name : RowName) → found tables new name ≡ written (listed held.written.items name) (found tables old name)
  pub places : (name : RowName) → is_listed held.written.items name ≡ false
      → has_place new (shelf_of tables name) name ≡ has_place old (shelf_of tables name) name
  pub away : (shelf : Resource) → is_away new shelf ≡ is_away old shelf

pub record AreShelvesBack (tables : List TableShape) (old new : AllShelves) (held : HeldShelves) : Type 0 where
  pub seen : (name : RowName)
      → (among held.written_shelves.items (shelf_of tables name) ≡ true → has_shelf old (shelf_of tables name) ≡ true)
      → (among held.written_shelves.items (shelf_of tables name) ≡ true
      → has_shelf held.shelves (shelf_of tables name) ≡ true)
      → (among held.written_shelves.items (shelf_of tables name) ≡ false → is_named held.written_names.items name ≡ true
      → has_place old (shelf_of tables name) name ≡ true)
      → (among held.written_shelves.items (shelf_of tables name) ≡ false → is_named held.written_names.items name ≡ true
      → has_place held.shelves (shelf_of tables name) name ≡ true)
      → found tables new name
      ≡ (if among held.written_shelves.items (shelf_of tables name) then found tables held.shelves name
      else (if is_named held.written_names.items name then full (found tables held.shelves name).row
      else found tables old name))
  pub places : (name : RowName) → among held.written_shelves.items (shelf_of tables name) ≡ false
      → is_named held.written_names.items name ≡ false
      → has_place new (shelf_of tables name) name ≡ has_place old (shelf_of tables name) name
  pub away : (shelf : Resource) → (among held.written_shelves.items shelf ≡ true → has_shelf old shelf ≡ true)
      → (among held.written_shelves.items shelf ≡ true → has_shelf held.shelves shelf ≡ true)
      → is_away new shelf
      ≡ (if among held.written_shelves.items shelf then is_away held.shelves shelf else is_away old shelf)

abbrev pub IsBackFrom : List TableShape → AllShelves → AllShelves → Holdings → Type 0
IsBackFrom tables old new (Rows held) = AreRowsBack tables old new held
IsBackFrom tables old new (Shelves held) = AreShelvesBack tables old new held
