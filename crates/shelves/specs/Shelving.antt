-- Claimed: what contracts promise to a reader rests on these words.
-- Where the place of a row name is.
use Rattle.std.specs.Prelude.{◌≡◌, ◌⊎◌, ℕ, ◌^◌, Bool, pos, true, false, nat_lt, List, Option, Some, None, unwrap_or, slice_get}
use Rattle.values.specs.declared.name.RowName.{RowName}
use Rattle.catalogue.specs.Shapes.{TableShape}
use Rattle.catalogue.specs.Places.{partition_of, partition_numbered, is_end_of}
use Rattle.workspace.specs.Scan.{is_in_part}
use Rattle.footprint.specs.declared.resource.Resource.{Resource}
use Rattle.footprint.specs.declared.resource.Resource.TheVariants.{Db, Table}
use Rattle.footprint.specs.declared.resource.InTable.TheVariants.{WholeTable, Part}
use Rattle.footprint.specs.declared.resource.InPart.TheVariants.{WholePart}

abbrev pub shelf_numbered : ℕ → Option ℕ → Resource
shelf_numbered table None = Table table WholeTable
shelf_numbered table (Some part) = Table table (Part part WholePart)

abbrev pub shelf_in : List TableShape → ℕ → ℕ → Option TableShape → Resource
shelf_in tables table part None = Db
shelf_in tables table part (Some shape) = shelf_numbered table (partition_numbered tables table (pos part))

-- the shelf of a partition is at the partition; what is of no partition of the tables is at its table, and what
-- is of no table at the database
unfoldable pub shelf_at : List TableShape → ℕ → ℕ → Resource
shelf_at tables table part = shelf_in tables table part (slice_get tables table)

-- the place of a row name is on the shelf of its partition
unfoldable pub shelf_of : List TableShape → RowName → Resource
shelf_of tables name = shelf_at tables name.table (unwrap_or (partition_of tables name.table name.key) 0)

-- whether a name is the last of its partition
abbrev pub is_end : List TableShape → RowName → Bool
is_end tables name = unwrap_or (is_end_of tables name.table name.key) false

-- a partition with a name has one that is its last, or one whose key is no row's of a resource
abbrev pub HasEnds : List TableShape → Type 0
HasEnds tables =
    (table part : ℕ) (name : RowName) → is_in_part tables table part name ≡ true
    → (end : RowName) × (is_in_part tables table part end ≡ true)
    × ((is_end tables end ≡ true) ⊎ (nat_lt end.key (2 ^ 63) ≡ false))
