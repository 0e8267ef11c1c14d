-- Claimed: what contracts promise to a reader rests on these words.
-- What becomes of whole shelves as they move between a store and a loan.
use Rattle.std.specs.Prelude.{◌≡◌, Bool, true, false, not, ◌&&◌, List, None, if◌then◌else◌}
use Rattle.values.specs.declared.name.RowName.{RowName}
use Rattle.footprint.specs.declared.resource.Resource.{Resource}
use Rattle.shelves.specs.Places.{Shelves, shelf_on, has_shelf, is_away, seen_at, is_same_shelf, among}

-- a shelf was added that shows what the store's shows, if that isn't away, unless there was one already
abbrev pub IsShelfShared : Resource → Shelves → Shelves → Shelves → Type 0
IsShelfShared at shelves old new =
    (shelf : Resource) (name : RowName) → (is_same_shelf at shelf ≡ true → is_away shelves shelf ≡ false)
    → seen_at new shelf name
    ≡ (if is_same_shelf at shelf && not (has_shelf old shelf)
    then seen_at shelves shelf name else seen_at old shelf name)

-- those of the shelves were added that weren't there
abbrev pub AreShelvesShared : List Resource → Shelves → Shelves → Shelves → Type 0
AreShelvesShared at shelves old new =
    (shelf : Resource) (name : RowName) → (among at shelf ≡ true → is_away shelves shelf ≡ false)
    → seen_at new shelf name
    ≡ (if among at shelf && not (has_shelf old shelf) then seen_at shelves shelf name else seen_at old shelf name)

-- a shelf can go out: the store has it, it is not away, and the loan has a shelf in whose place it comes
abbrev pub is_ready : Shelves → Shelves → Resource → Bool
is_ready shelves loan shelf = has_shelf shelves shelf && (has_shelf loan shelf && not (is_away shelves shelf))

-- a shelf that could go out is the loan's
abbrev pub IsShelfLent : Resource → Shelves → Shelves → Shelves → Type 0
IsShelfLent at shelves old new = (shelf : Resource) → shelf_on new shelf
    ≡ (if is_same_shelf at shelf && is_ready shelves old shelf then shelf_on shelves shelf else shelf_on old shelf)

-- those of the shelves that could go out are the loan's
abbrev pub AreShelvesLent : List Resource → Shelves → Shelves → Shelves → Type 0
AreShelvesLent at shelves old new = (shelf : Resource) → shelf_on new shelf
    ≡ (if among at shelf && is_ready shelves old shelf then shelf_on shelves shelf else shelf_on old shelf)

-- a shelf that both have is the loan's
abbrev pub IsShelfPut : Resource → Shelves → Shelves → Shelves → Type 0
IsShelfPut at loan old new = (shelf : Resource) → shelf_on new shelf
    ≡ (if is_same_shelf at shelf && (has_shelf old shelf && has_shelf loan shelf)
    then shelf_on loan shelf else shelf_on old shelf)

-- those of the shelves that both have are the loan's
abbrev pub AreShelvesPut : List Resource → Shelves → Shelves → Shelves → Type 0
AreShelvesPut at loan old new = (shelf : Resource) → shelf_on new shelf
    ≡ (if among at shelf && (has_shelf old shelf && has_shelf loan shelf)
    then shelf_on loan shelf else shelf_on old shelf)

-- the loan keeps no such shelf
abbrev pub IsShelfGone : Resource → Shelves → Shelves → Type 0
IsShelfGone at old new =
    (shelf : Resource) → shelf_on new shelf ≡ (if is_same_shelf at shelf then None else shelf_on old shelf)

-- the loan keeps no such shelves
abbrev pub AreShelvesGone : List Resource → Shelves → Shelves → Type 0
AreShelvesGone at old new =
    (shelf : Resource) → shelf_on new shelf ≡ (if among at shelf then None else shelf_on old shelf)
