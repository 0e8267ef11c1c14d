-- Of the code: invariants and steps; no promise rests on these words.
-- Rows by their names, in lists.
use Rattle.std.specs.Prelude.{◌≡◌, Bool, false, not, ◌&&◌, if◌then◌else◌, List, [], ◌∷◌, Option, Some, None, ⊤}
use Rattle.std.specs.List.{list_any}
use Rattle.values.specs.declared.name.RowName.{RowName}
use Rattle.values.specs.Database.{RowOf}
use Rattle.catalogue.specs.Shapes.{TableShape}
use Rattle.proclang_types.specs.declared.right.Right.TheVariants.{Read, Write}
use Rattle.modes.specs.declared.mode.Mode.{Mode}
use Rattle.coarsen.specs.Subtrees.{Requests}
use Rattle.shelves.specs.declared.named.NamedRow.{NamedRow}
use Rattle.shelves.specs.Named.{listed}
use Rattle.shelves.specs.Places.{Shelves, seen_at, is_named}
use Rattle.shelves.specs.Shelving.{shelf_of}
use Rattle.row_store.specs.Locked.{gives, name_of, is_of}

-- the row of a name, none where nothing is said of it
abbrev pub row_in : Option (Option RowOf) → Option RowOf
row_in None = None
row_in (Some row) = row

-- each name is there once
abbrev pub AreDistinct : List RowName → Type 0
AreDistinct [] = ⊤
AreDistinct (name ∷ names) = (is_named names name ≡ false) × AreDistinct names

-- the mode gives the right to read on the resource itself, and not the right to write
abbrev pub reads_only : Mode → Bool
reads_only mode = gives Read mode && not (gives Write mode)

-- a request with the right to read alone, on the row name itself
abbrev pub reads_itself : Requests → RowName → Bool
reads_itself requests name = list_any (λ e. reads_only e.1 && is_of (name_of e.0) name) requests

-- the names that pass a test are listed, each with the row at it, and no other
abbrev pub AreListed : List TableShape → List NamedRow → (RowName → Bool) → Shelves → Type 0
AreListed tables rows test shelves = (name : RowName) → listed rows name
    ≡ (if test name then Some (seen_at shelves (shelf_of tables name) name).row else None)
