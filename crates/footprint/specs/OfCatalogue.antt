-- Claimed: what contracts promise to a reader rests on these words.
-- Resources and footprints of a catalogue.
use Rattle.std.specs.Prelude.{◌≡◌, ◌<◌, ◌^◌, nat_lt, ⊤, true, List, length, Some, option_map, IsSome, slice_get}
use Rattle.std.specs.FinMap.{get}
use Rattle.values.specs.declared.name.RowName.{RowName}
use Rattle.catalogue.specs.Shapes.{TableShape, partitions}
use Rattle.catalogue.specs.Places.{partition_of}
use Rattle.footprint.specs.declared.resource.Resource.{Resource}
use Rattle.footprint.specs.declared.resource.Resource.TheVariants.{Db, Table}
use Rattle.footprint.specs.declared.resource.InTable.TheVariants.{WholeTable, Part}
use Rattle.footprint.specs.declared.resource.InPart.TheVariants.{WholePart, Row}
use Rattle.footprint.specs.Rights.{FootprintOf}

-- a row name of these tables: any of the tables, with any key
abbrev pub IsRowName : List TableShape → RowName → Type 0
IsRowName tables name = (name.table < length tables) × (name.key < 2 ^ 63)

-- the database, one of the tables, one of a table's partitions, or a row name in the partition of its key
abbrev pub IsResourceOf : List TableShape → Resource → Type 0
IsResourceOf tables Db = ⊤
IsResourceOf tables (Table t WholeTable) = t < length tables
IsResourceOf tables (Table t (Part p WholePart)) =
    option_map (λ s. nat_lt p (partitions s.split)) (slice_get tables t) ≡ Some true
IsResourceOf tables (Table t (Part p (Row k))) = (k < 2 ^ 63) × (partition_of tables t k ≡ Some p)

-- each resource that has a right is of these tables
abbrev pub IsFootprintOf : List TableShape → FootprintOf → Type 0
IsFootprintOf tables footprint = (resource : Resource) → IsSome (get footprint resource) → IsResourceOf tables resource
