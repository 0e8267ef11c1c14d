-- Claimed: what contracts promise to a reader rests on these words.
-- What requests lock: whole shelves, and row names by themselves.
use Rattle.std.specs.Prelude.{ℕ, ◌^◌, Bool, false, ◌&&◌, ◌==◌, if◌then◌else◌, nat_le, nat_lt, List, Option, Some, None}
use Rattle.std.specs.List.{list_any}
use Rattle.values.specs.declared.name.RowName.{RowName}
use Rattle.proclang_types.specs.declared.right.Right.{Right}
use Rattle.footprint.specs.declared.resource.Resource.{Resource}
use Rattle.footprint.specs.declared.resource.Resource.TheVariants.{Db, Table}
use Rattle.footprint.specs.declared.resource.InTable.TheVariants.{WholeTable, Part}
use Rattle.footprint.specs.declared.resource.InPart.TheVariants.{WholePart, Row}
use Rattle.modes.specs.declared.mode.Mode.{Mode}
use Rattle.modes.specs.Rights.{rank_of}
use Rattle.modes.specs.Modes.{own}
use Rattle.coarsen.specs.Subtrees.{Requests, holds}
use Rattle.catalogue.specs.Shapes.{TableShape}
use Rattle.shelves.specs.Places.{is_same_name}
use Rattle.shelves.specs.Shelving.{is_end}

-- the mode gives the right on the resource itself
abbrev pub gives : Right → Mode → Bool
gives right mode = nat_le (rank_of right) (own mode)

-- the row name of a resource that is one
abbrev pub name_of : Resource → Option RowName
name_of Db = None
name_of (Table table WholeTable) = None
name_of (Table table (Part part WholePart)) = None
name_of (Table table (Part part (Row key))) =
    if nat_lt key (2 ^ 63) then Some (record { table = table; key = key }) else None

abbrev pub is_of : Option RowName → RowName → Bool
is_of None name = false
is_of (Some found) name = is_same_name found name

abbrev pub is_end_among : List TableShape → Option RowName → Bool
is_end_among tables None = false
is_end_among tables (Some name) = is_end tables name

-- whether a resource is the last row name of a partition
abbrev pub is_an_end : List TableShape → Resource → Bool
is_an_end tables resource = is_end_among tables (name_of resource)

-- a request with the right, on the shelf's resource or one over it
abbrev pub locks_shelf : Requests → Right → Resource → Bool
locks_shelf requests right at = list_any (λ e. gives right e.1 && holds e.0 at) requests

-- a request with the right, on the row name itself
abbrev pub locks_itself : Requests → Right → RowName → Bool
locks_itself requests right name = list_any (λ e. gives right e.1 && is_of (name_of e.0) name) requests

-- the resource is one of the first `count` partitions of the table
abbrev pub is_part_below : ℕ → ℕ → Resource → Bool
is_part_below table count Db = false
is_part_below table count (Table t WholeTable) = false
is_part_below table count (Table t (Part p (Row key))) = false
is_part_below table count (Table t (Part p WholePart)) = (table == t) && nat_lt p count

-- the resource is in one of the first `count` tables
abbrev pub is_table_below : ℕ → Resource → Bool
is_table_below count Db = false
is_table_below count (Table t within) = nat_lt t count
