-- Claimed: what contracts promise to a reader rests on these words.
-- The rows that shelves represent.
use Rattle.catalogue.specs.Shapes.{TableShape}
use Rattle.footprint.specs.declared.resource.Resource.{Resource}
use Rattle.shelves.specs.Places.{Places, places_of, Shelves, PlaceOf, seen_at}
use Rattle.shelves.specs.Shelving.{shelf_of}
use Rattle.shelves.specs.declared.shelf.Shelf.{Shelf}
use Rattle.std.specs.BTreeMap.{keys}
use Rattle.std.specs.FinMap.{insert, empty}
use Rattle.std.specs.Prelude.{ℕ, List, [], ◌∷◌, ◌++◌, Option, Some, None}
use Rattle.std.specs.declared.snapshot.Snapshot.{Snapshot}
use Rattle.values.specs.Database.{Database, RowOf}
use Rattle.values.specs.declared.name.RowName.{RowName}
use Rattle.values.specs.declared.value.Value.{Value}
use Rattle.workspace.specs.Overlay.{with_write}

-- what is at a row name
abbrev pub found : List TableShape → Shelves → RowName → PlaceOf
found tables shelves name = seen_at shelves (shelf_of tables name) name

abbrev pub names_away : Option (Snapshot Places) → List RowName
names_away None = []
names_away (Some lent) = keys lent.value

abbrev pub names_of : List (Resource × Shelf) → List RowName
names_of [] = []
names_of (e ∷ es) = (keys (places_of e.1.contents) ++ names_away e.1.away) ++ names_of es

abbrev pub rows_at : (RowName → Option RowOf) → List RowName → Database
rows_at row [] = empty
rows_at row (name ∷ names) = with_write (rows_at row names) (name, row name)

-- the rows that count, by their names
abbrev pub rows_of : List TableShape → Shelves → Database
rows_of tables shelves = rows_at (λ name. (found tables shelves name).counts_as) (names_of shelves.entries)

-- the database with these rows put in one after the other
abbrev pub with_rows : Database → List (ℕ × ℕ × List Value) → Database
with_rows db [] = db
with_rows db (r ∷ rs) = with_rows (insert db (record { table = r.0; key = r.1 }) r.2) rs
