-- Of the code: invariants and steps; no promise rests on these words.
-- What becomes of shelves and places when rows move between a store and a loan. A relation of one shelf or one row name
-- speaks of every place; those of many speak of the places where row names belong.
use Rattle.std.specs.Prelude.{◌≡◌, false, ◌&&◌, List, if◌then◌else◌}
use Rattle.values.specs.declared.name.RowName.{RowName}
use Rattle.catalogue.specs.Shapes.{TableShape}
use Rattle.footprint.specs.declared.resource.Resource.{Resource}
use Rattle.shelves.specs.Places.{Shelves, has_place, seen_at, emptied, full, as_it_stands, is_same_shelf, is_same_name, is_named}
use Rattle.shelves.specs.Shelving.{shelf_of}

-- those of these names that have a place are emptied, and each other is as it was
abbrev pub AreEmptied : List TableShape → List RowName → Shelves → Shelves → Type 0
AreEmptied tables names old new = (name : RowName) → seen_at new (shelf_of tables name) name
    ≡ (if is_named names name && has_place old (shelf_of tables name) name
    then emptied (seen_at old (shelf_of tables name) name) else seen_at old (shelf_of tables name) name)

-- the row at one name was added
abbrev pub IsShared : Resource → RowName → Shelves → Shelves → Shelves → Type 0
IsShared at one shelves old new = (shelf : Resource) (name : RowName) → seen_at new shelf name
    ≡ (if is_same_shelf at shelf && is_same_name one name
    then as_it_stands (seen_at shelves shelf name) else seen_at old shelf name)

-- the rows at these names were added
abbrev pub AreShared : List TableShape → List RowName → Shelves → Shelves → Shelves → Type 0
AreShared tables names shelves old new = (name : RowName) → seen_at new (shelf_of tables name) name
    ≡ (if is_named names name then as_it_stands (seen_at shelves (shelf_of tables name) name)
    else seen_at old (shelf_of tables name) name)

-- the row of one name that has a place in both is the loan's
abbrev pub IsRowPut : Resource → RowName → Shelves → Shelves → Shelves → Type 0
IsRowPut at one loan old new = (shelf : Resource) (name : RowName) → seen_at new shelf name
    ≡ (if is_same_shelf at shelf
    && (is_same_name one name && (has_place old shelf name && has_place loan shelf name))
    then full (seen_at loan shelf name).row else seen_at old shelf name)

-- every other name has its place where it had one, and shows what it showed
abbrev pub AreOthersKept : Resource → RowName → Shelves → Shelves → Type 0
AreOthersKept at one old new =
    (shelf : Resource) (name : RowName) → (is_same_shelf at shelf && is_same_name one name) ≡ false
    → (has_place new shelf name ≡ has_place old shelf name) × (seen_at new shelf name ≡ seen_at old shelf name)

-- the rows of those of the names that have a place in both are the loan's
abbrev pub AreRowsPut : List TableShape → List RowName → Shelves → Shelves → Shelves → Type 0
AreRowsPut tables names loan old new = (name : RowName) → seen_at new (shelf_of tables name) name
    ≡ (if is_named names name
    && (has_place old (shelf_of tables name) name && has_place loan (shelf_of tables name) name)
    then full (seen_at loan (shelf_of tables name) name).row else seen_at old (shelf_of tables name) name)
