-- Claimed: what contracts promise to a reader rests on these words.
-- The frame of a meaning: what it depends on, and what it changes. (Calvin, 2012: what a transaction reads and writes
-- is known before it asks for locks.)
use Rattle.std.specs.Prelude.{◌≡◌, Bool, true, false, List, Option, Some, None}
use Rattle.std.specs.FinMap.{get}
use Rattle.values.specs.declared.name.RowName.{RowName}
use Rattle.catalogue.specs.Shapes.{TableShape}
use Rattle.values.specs.Database.{Database}
use Rattle.proclang_types.specs.declared.right.Right.{Right}
use Rattle.proclang_types.specs.declared.right.Right.TheVariants.{Read, Write}
use Rattle.footprint.specs.Rights.{FootprintOf, covers_row}
use Rattle.meaning.specs.Entries.{EntryShape, footprint_of, meaning}

-- whether an entry may touch a row name with that right; an entry whose footprint faults may touch none
abbrev pub may_touch : List TableShape → Option FootprintOf → RowName → Right → Bool
may_touch tables None name right = false
may_touch tables (Some footprint) name right = covers_row tables footprint name right

-- an entry may touch a row name with this right
abbrev pub touches : EntryShape → RowName → Right → Bool
touches entry = may_touch entry.tables (footprint_of entry.footing)

-- two databases have the same row, or none, at each row name that the entry may read
abbrev pub Agree : EntryShape → Database → Database → Type 0
Agree entry a b = (name : RowName) → touches entry name Read ≡ true → get b name ≡ get a name

-- The entry has one outcome on both databases, the databases that it leaves agree on what it may read, and it changes
-- no row name that it may not write.
pub record StaysInFootprint (entry : EntryShape) (one two : Database) : Type 0 where
  pub outcome : (meaning entry two).0 ≡ (meaning entry one).0
  pub agree : Agree entry (meaning entry one).1 (meaning entry two).1
  pub others : (name : RowName) → touches entry name Write ≡ false → get (meaning entry one).1 name ≡ get one name
