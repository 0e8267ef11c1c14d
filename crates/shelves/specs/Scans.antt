-- Of the code: invariants and steps; no promise rests on these words.
-- Where a scan starts, and what it comes to.
use Rattle.std.specs.Prelude.{ℕ, List, [], ◌∷◌, if◌then◌else◌, Option, Some, None}
use Rattle.std.specs.declared.ops.Bound.{Bound}
use Rattle.std.specs.declared.ops.Bound.TheVariants.{Excluded, Unbounded}
use Rattle.values.specs.declared.name.RowName.{RowName}
use Rattle.catalogue.specs.Shapes.{TableShape}
use Rattle.values.specs.Database.{RowOf}
use Rattle.workspace.specs.Scan.{is_ahead}
use Rattle.shelves.specs.declared.place.Place.{Place}
use Rattle.shelves.specs.Places.{row_of}

-- after the name with a key, or at the first name
abbrev pub scan_start : ℕ → Option ℕ → Bound RowName
scan_start table None = Unbounded
scan_start table (Some key) = Excluded (record { table = table; key = key })

-- the row at a place, if its name is of the partition
abbrev pub row_on : List TableShape → ℕ → ℕ → RowName × Place → Option RowOf
row_on tables table part e = if is_ahead tables table part None e.0 then row_of e.1 else None

abbrev pub with_row : ℕ → Option RowOf → List (ℕ × RowOf) → List (ℕ × RowOf)
with_row key None rows = rows
with_row key (Some row) rows = (key, row) ∷ rows

-- the rows of a partition that are at places, with their keys
abbrev pub rows_on : List TableShape → ℕ → ℕ → List (RowName × Place) → List (ℕ × RowOf)
rows_on tables table part [] = []
rows_on tables table part (e ∷ es) = with_row e.0.key (row_on tables table part e) (rows_on tables table part es)
