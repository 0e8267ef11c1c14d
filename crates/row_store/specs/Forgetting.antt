-- Of the code: invariants and steps; no promise rests on these words.
-- What forgets the digests that are kept of partitions. The shelf of a partition represents it.
use Rattle.std.specs.Prelude.{◌≡◌, ℕ, Bool, ◌||◌, if◌then◌else◌, List, Option, None}
use Rattle.std.specs.List.{list_any}
use Rattle.values.specs.declared.name.RowName.{RowName}
use Rattle.values.specs.Database.{RowOf}
use Rattle.catalogue.specs.Shapes.{TableShape}
use Rattle.footprint.specs.declared.resource.Resource.{Resource}
use Rattle.footprint.specs.declared.resource.Resource.TheVariants.{Db, Table}
use Rattle.footprint.specs.declared.resource.InTable.TheVariants.{WholeTable, Part}
use Rattle.footprint.specs.declared.resource.InPart.TheVariants.{WholePart, Row}
use Rattle.row_text.specs.declared.kept.KeptDigests.{KeptDigests}
use Rattle.row_text.specs.Kept.{kept_at}
use Rattle.shelves.specs.Places.{is_same_shelf, among}
use Rattle.shelves.specs.Shelving.{shelf_of}
use Rattle.row_store.specs.declared.held.Holdings.{Holdings}
use Rattle.row_store.specs.declared.held.Holdings.TheVariants.{Rows, Shelves}
use Rattle.shelves.specs.declared.named.NamedRow.{NamedRow}

-- the digest that is kept of the partition of a shelf
abbrev pub kept_on : KeptDigests → Resource → Option (List ℕ)
kept_on kept Db = None
kept_on kept (Table table WholeTable) = None
kept_on kept (Table table (Part part WholePart)) = kept_at kept table part
kept_on kept (Table table (Part part (Row number))) = None

-- the digests on shelves that pass a test are forgotten, and no other
abbrev pub AreForgotten : (Resource → Bool) → KeptDigests → KeptDigests → Type 0
AreForgotten test old new = (shelf : Resource) → kept_on new shelf ≡ (if test shelf then None else kept_on old shelf)

-- one of the names has its place on the shelf
abbrev pub has_name : List TableShape → List RowName → Resource → Bool
has_name tables names shelf = list_any (λ name. is_same_shelf (shelf_of tables name) shelf) names

-- one of the rows of a list does
abbrev pub has_listed : List TableShape → List NamedRow → Resource → Bool
has_listed tables rows shelf = list_any (λ (e : NamedRow). is_same_shelf (shelf_of tables e.name) shelf) rows

-- one of the writes does
abbrev pub has_write : List TableShape → List (RowName × Option RowOf) → Resource → Bool
has_write tables writes shelf =
    list_any (λ (e : RowName × Option RowOf). is_same_shelf (shelf_of tables e.0) shelf) writes

-- a loan gives back the shelf, or a row on it
abbrev pub gives_on : List TableShape → Holdings → Resource → Bool
gives_on tables (Rows held) shelf = has_listed tables held.written.items shelf
gives_on tables (Shelves held) shelf =
    has_name tables held.written_names.items shelf || among held.written_shelves.items shelf
