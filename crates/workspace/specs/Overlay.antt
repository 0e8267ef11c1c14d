-- Claimed: what contracts promise to a reader rests on these words.
-- Own writes over a database.
use Rattle.std.specs.Prelude.{List, [], ◌∷◌, Option, None, Some}
use Rattle.std.specs.FinMap.{insert, remove}
use Rattle.values.specs.declared.name.RowName.{RowName}
use Rattle.values.specs.Database.{Database, RowOf}

-- the database with a row in place of what was there, or with none
abbrev pub with_write : Database → RowName × Option RowOf → Database
with_write db (name, None) = remove db name
with_write db (name, Some row) = insert db name row

-- the database after writes, of which no two are of one name
abbrev pub applied : List (RowName × Option RowOf) → Database → Database
applied [] db = db
applied (write ∷ writes) db = with_write (applied writes db) write
