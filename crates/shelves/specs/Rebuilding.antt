-- Of the code: invariants and steps; no promise rests on these words.
-- Rows that are put once more on shelves, those of another catalogue.
use Rattle.std.specs.Prelude.{◌≡◌, false, List, [], ◌∷◌, ◌++◌, Option, Some, None}
use Rattle.std.specs.BTreeMap.{keys}
use Rattle.values.specs.declared.name.RowName.{RowName}
use Rattle.values.specs.Database.{RowOf}
use Rattle.footprint.specs.declared.resource.Resource.{Resource}
use Rattle.shelves.specs.declared.shelf.Shelf.{Shelf}
use Rattle.shelves.specs.Places.{PlaceOf, full, places_of, is_named}

-- what is found at a name as its row is put there; without a row nothing changes
abbrev pub put : Option RowOf → PlaceOf → PlaceOf
put None place = place
put (Some row) place = full (Some row)

-- the names of the places on shelves
abbrev pub names_on : List (Resource × Shelf) → List RowName
names_on [] = []
names_on (e ∷ es) = keys (places_of e.1.contents) ++ names_on es

-- each name that isn't left has its row, and a name that is to have none has none
pub record AreBack (row : RowName → Option RowOf) (place : RowName → PlaceOf) (left : List RowName) : Type 0 where
  pub done : (name : RowName) → is_named left name ≡ false → place name ≡ full (row name)
  pub none : (name : RowName) → row name ≡ None → place name ≡ full None
