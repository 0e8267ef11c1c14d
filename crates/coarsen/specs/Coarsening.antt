-- Claimed: what contracts promise to a reader rests on these words.
-- The coarsening of a footprint: fewer and greater entries, which cover all that it covers. (This project's own.)
use Rattle.std.specs.Prelude.{ℕ, Bool, false, not, if◌then◌else◌, nat_lt, Option, Some, None, List, map, length}
use Rattle.std.specs.List.{filter, list_any}
use Rattle.std.specs.FinMap.{entries, get, empty}
use Rattle.proclang_types.specs.declared.right.Right.{Right}
use Rattle.footprint.specs.declared.resource.InPart.TheVariants.{WholePart, Row}
use Rattle.footprint.specs.declared.resource.InTable.TheVariants.{WholeTable, Part}
use Rattle.footprint.specs.declared.resource.Resource.{Resource}
use Rattle.footprint.specs.declared.resource.Resource.TheVariants.{Db, Table}
use Rattle.footprint.specs.Tree.{ancestors_of}
use Rattle.footprint.specs.Rights.{FootprintOf, is_at_least, with_rights}
use Rattle.coarsen.specs.declared.level.Level.{Level}
use Rattle.coarsen.specs.declared.level.Level.TheVariants.{Rows, Partitions}
use Rattle.coarsen.specs.Subtrees.{is_same}

-- the footprint of these rights, the greater of two on one resource
abbrev pub gathered : List (Resource × Right) → FootprintOf
gathered es = with_rights empty es

-- step 1, and again step 4: each entry goes that has an entry of at least its right on an ancestor
abbrev pub is_needed : FootprintOf → Resource × Right → Bool
is_needed footprint e = not (list_any (λ r. is_at_least e.1 (get footprint r)) (ancestors_of e.0))

-- the entries that no entry of an ancestor covers
abbrev pub needed : FootprintOf → FootprintOf
needed footprint = gathered (filter (is_needed footprint) (entries footprint))

-- the parent of a resource of the level: of a row its partition, of a partition its table
abbrev pub parent_at : Level → Resource → Option Resource
parent_at Rows Db = None
parent_at Rows (Table t WholeTable) = None
parent_at Rows (Table t (Part p WholePart)) = None
parent_at Rows (Table t (Part p (Row k))) = Some (Table t (Part p WholePart))
parent_at Partitions Db = None
parent_at Partitions (Table t WholeTable) = None
parent_at Partitions (Table t (Part p WholePart)) = Some (Table t WholeTable)
parent_at Partitions (Table t (Part p (Row k))) = None

-- the one that was found is that parent
abbrev pub is_parent : Option Resource → Resource → Bool
is_parent None parent = false
is_parent (Some found) parent = is_same found parent

-- how many entries of the level a resource has as its children
abbrev pub children : Level → FootprintOf → Resource → ℕ
children level footprint parent = length (filter (λ e. is_parent (parent_at level e.0) parent) (entries footprint))

-- steps 2 and 3: where a resource has more than k entries of the level as its children, they are replaced by one entry
-- on the resource, with the greatest right of them and of its own entry. So each of these entries goes to its parent,
-- and of the rights that come together the greatest counts
abbrev pub place : Option Resource → (Resource → ℕ) → ℕ → Resource → Resource
place None counts k resource = resource
place (Some parent) counts k resource = if nat_lt k (counts parent) then parent else resource

-- where more than k entries of a level have one parent, one entry on the parent has their greatest right
abbrev pub lifted : Level → ℕ → FootprintOf → FootprintOf
lifted level k footprint = gathered
    (map {B = Resource × Right}
    (λ (e : Resource × Right). (place (parent_at level e.0) (children level footprint) k e.0, e.1))
    (entries footprint))

-- rule: lock.coarsened
-- steps 1 to 4: covered entries go; more than k rows of a partition become one entry, and then more than k partitions
-- of a table; covered entries go again
abbrev pub coarsened : ℕ → FootprintOf → FootprintOf
coarsened k footprint = needed (lifted Partitions k (lifted Rows k (needed footprint)))

-- step 5: one entry on the database, with the greatest right of all
abbrev pub on_database : FootprintOf → FootprintOf
on_database footprint = gathered (map {B = Resource × Right} (λ (e : Resource × Right). (Db, e.1)) (entries footprint))
