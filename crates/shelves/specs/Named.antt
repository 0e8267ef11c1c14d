-- Claimed: what contracts promise to a reader rests on these words.
-- Rows by their names, in lists.
use Rattle.std.specs.Prelude.{Bool, if◌then◌else◌, List, [], ◌∷◌, map, Option, Some, None}
use Rattle.values.specs.declared.name.RowName.{RowName}
use Rattle.values.specs.Database.{RowOf}
use Rattle.shelves.specs.declared.named.NamedRow.{NamedRow}
use Rattle.shelves.specs.Places.{shared_row, is_same_name, is_named}

-- what a list says of a name: its row or that it has none; nothing of a name that isn't listed
abbrev pub listed : List NamedRow → RowName → Option (Option RowOf)
listed [] name = None
listed (e ∷ es) name = if is_same_name e.name name then Some (shared_row e.row) else listed es name

-- the names of a list, in its order
abbrev pub names_listed : List NamedRow → List RowName
names_listed rows = map (λ (e : NamedRow). e.name) rows

-- whether a list says anything of a name
abbrev pub is_listed : List NamedRow → RowName → Bool
is_listed rows name = is_named (names_listed rows) name
