-- Claimed: what contracts promise to a reader rests on these words.
-- What an entry asks of a view, and what it writes.
use Rattle.std.specs.Prelude.{◌≡◌, Bool, true, false, List, Option, None}
use Rattle.std.specs.Map.{lookup}
use Rattle.std.specs.BTreeMap.{is_at}
use Rattle.values.specs.declared.name.RowName.{RowName}
use Rattle.values.specs.Database.{RowOf, name_cmp}
use Rattle.proclang_types.specs.declared.right.Right.TheVariants.{Read, Write}
use Rattle.meaning.specs.Entries.{EntryShape}
use Rattle.meaning.specs.Frame.{touches}

-- each name that the entry may read is shown
pub record ShowsTouched (entry : EntryShape) (shows : RowName → Bool) : Type 0 where
  pub shown : (name : RowName) → touches entry name Read ≡ true → shows name ≡ true

-- there are only writes of names that the entry may write
pub record OnlyTouched (entry : EntryShape) (writes : List (RowName × Option RowOf)) : Type 0 where
  pub others : (name : RowName) → touches entry name Write ≡ false → lookup (is_at (name_cmp name)) writes ≡ None

-- each name is shown
pub record ShowsEachName (shows : RowName → Bool) : Type 0 where
  pub shown : (name : RowName) → shows name ≡ true
