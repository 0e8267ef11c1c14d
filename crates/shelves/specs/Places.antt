-- Claimed: what contracts promise to a reader rests on these words.
-- Places: what is at row names, and what counts there.
use Rattle.std.specs.Prelude.{List, Option, Some, None, option_map, Bool, true, false, is_some}
use Rattle.std.specs.List.{list_any}
use Rattle.std.specs.BTreeMap.{BTreeMap, get, is_at}
use Rattle.std.specs.Arc.{arc_value}
use Rattle.std.specs.declared.sync.Arc.{Arc}
use Rattle.std.specs.declared.alloc.Global.{Global}
use Rattle.std.specs.declared.snapshot.Snapshot.{Snapshot}
use Rattle.values.specs.declared.name.RowName.{RowName}
use Rattle.values.specs.Database.{RowOf, name_cmp}
use Rattle.footprint.specs.declared.resource.Resource.{Resource}
use Rattle.footprint.specs.Tree.{resource_cmp}
use Rattle.shelves.specs.declared.place.Place.{Place}
use Rattle.shelves.specs.declared.place.Place.TheVariants.{Here, Lent, Reserved}
use Rattle.shelves.specs.declared.contents.Contents.{Contents}
use Rattle.shelves.specs.declared.contents.Contents.TheVariants.{Own, Shared}
use Rattle.shelves.specs.declared.shelf.Shelf.{Shelf}

-- the row at a name, and the row that counts there: while a row is lent to be written it is away, and
-- counts as it was lent
pub record PlaceOf : Type 0 where
  pub row : Option RowOf
  pub counts_as : Option RowOf

abbrev pub shared_row : Option (Arc RowOf Global) → Option RowOf
shared_row row = option_map arc_value row

-- a name whose row is there
abbrev pub full : Option RowOf → PlaceOf
full row = record { row = row; counts_as = row }

-- a name with the row that is there, and no other counts
abbrev pub as_it_stands : PlaceOf → PlaceOf
as_it_stands place = full place.row

-- a name whose row is away
abbrev pub emptied : PlaceOf → PlaceOf
emptied place = record { row = None; counts_as = place.counts_as }

-- a name whose row went out, and counts as it stood there
abbrev pub gone : PlaceOf → PlaceOf
gone place = record { row = None; counts_as = place.row }

-- the row at a place: none while it is lent, or is to come
abbrev pub row_of : Place → Option RowOf
row_of (Here row) = shared_row row
row_of (Lent row) = None
row_of Reserved = None

-- what a place says that counts, or what counts where it says nothing
abbrev pub counted : Place → Option RowOf → Option RowOf
counted (Here row) otherwise = shared_row row
counted (Lent row) otherwise = shared_row row
counted Reserved otherwise = otherwise

-- the row at a place; none where there is no place
abbrev pub standing : Option Place → Option RowOf
standing None = None
standing (Some place) = row_of place

abbrev pub counted_at : Option Place → Option RowOf → Option RowOf
counted_at None otherwise = otherwise
counted_at (Some place) otherwise = counted place otherwise

-- what is seen at a place, or where there is none
abbrev pub seen_over : Option Place → Option RowOf → PlaceOf
seen_over place otherwise = record { row = standing place; counts_as = counted_at place otherwise }

abbrev pub Places : Type 0
Places = BTreeMap RowName Place

-- what is seen at a name among places
abbrev pub seen_among : Places → RowName → Option RowOf → PlaceOf
seen_among places name otherwise = seen_over (get name_cmp places name) otherwise

-- the places of a shelf, its own or shared
abbrev pub places_of : Contents → Places
places_of (Own places) = places
places_of (Shared places) = arc_value places

abbrev pub is_own : Contents → Bool
is_own (Own places) = true
is_own (Shared places) = false

-- the name has a place that is the shelf's own: it can be filled and emptied without memory
abbrev pub has_own : Contents → RowName → Bool
has_own (Own places) name = is_some (get name_cmp places name)
has_own (Shared places) name = false

-- what counts at a name of a shelf that is away: the row that stood there as the shelf was lent
abbrev pub counted_away : Option (Snapshot Places) → RowName → Option RowOf
counted_away None name = None
counted_away (Some lent) name = standing (get name_cmp lent.value name)

-- what is seen at a name, whether the name has a place of the shelf's own, and whether the shelf is away
abbrev pub seen_in : Shelf → RowName → PlaceOf
seen_in shelf name = seen_among (places_of shelf.contents) name (counted_away shelf.away name)

abbrev pub has_in : Shelf → RowName → Bool
has_in shelf name = has_own shelf.contents name

abbrev pub is_shelf_out : Shelf → Bool
is_shelf_out shelf = is_some shelf.away

-- the same where there may be no shelf
abbrev pub seen_on : Option Shelf → RowName → PlaceOf
seen_on None name = full None
seen_on (Some shelf) name = seen_in shelf name

abbrev pub has_on : Option Shelf → RowName → Bool
has_on None name = false
has_on (Some shelf) name = has_in shelf name

abbrev pub is_out_on : Option Shelf → Bool
is_out_on None = false
is_out_on (Some shelf) = is_shelf_out shelf

-- shelves are at resources
abbrev pub Shelves : Type 0
Shelves = BTreeMap Resource Shelf

abbrev pub shelf_on : Shelves → Resource → Option Shelf
shelf_on shelves at = get resource_cmp shelves at

abbrev pub has_shelf : Shelves → Resource → Bool
has_shelf shelves at = is_some (shelf_on shelves at)

abbrev pub is_away : Shelves → Resource → Bool
is_away shelves at = is_out_on (shelf_on shelves at)

abbrev pub has_place : Shelves → Resource → RowName → Bool
has_place shelves at name = has_on (shelf_on shelves at) name

abbrev pub seen_at : Shelves → Resource → RowName → PlaceOf
seen_at shelves at name = seen_on (shelf_on shelves at) name

-- two names, or two resources, are one
abbrev pub is_same_name : RowName → RowName → Bool
is_same_name a b = is_at (name_cmp a) b

abbrev pub is_same_shelf : Resource → Resource → Bool
is_same_shelf a b = is_at (resource_cmp a) b

abbrev pub among : List Resource → Resource → Bool
among shelves at = list_any (λ r. is_same_shelf r at) shelves

abbrev pub is_named : List RowName → RowName → Bool
is_named names name = list_any (λ n. is_same_name n name) names

-- what is at a name after a write, or where none is made
abbrev pub written : Option (Option RowOf) → PlaceOf → PlaceOf
written None place = place
written (Some row) place = full row
