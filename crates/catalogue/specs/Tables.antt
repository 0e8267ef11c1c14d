-- Of the code: invariants and steps; no promise rests on these words.
-- A table of a catalogue, by its place.
use Rattle.std.specs.Prelude.{◌≡◌, ℕ, List, Some, option_map, slice_get}
use Rattle.catalogue.specs.declared.table.Table.{Table}
use Rattle.catalogue.specs.Shapes.{TableShape, split_shape, columns_shape}

-- the table's split and columns are those of the table at that place
pub record IsTableAt (tables : List TableShape) (place : ℕ) (table : Table) : Type 0 where
  pub split : option_map (λ t. t.split) (slice_get tables place) ≡ Some (split_shape table.split)
  pub columns : option_map (λ t. t.columns) (slice_get tables place) ≡ Some (columns_shape table.columns.entries)
