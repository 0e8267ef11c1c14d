-- Claimed: what contracts promise to a reader rests on these words.
-- Entries over the tables of a catalogue.
use Rattle.std.specs.Prelude.{◌≡◌, List, Option, Some, None}
use Rattle.std.specs.List.{AllByRecursion}
use Rattle.std.specs.FinMap.{empty}
use Rattle.catalogue.specs.Shapes.{TableShape}
use Rattle.footprint.specs.Rights.{FootprintOf}
use Rattle.footprint.specs.OfCatalogue.{IsFootprintOf}
use Rattle.meaning.specs.Entries.{footprint_of}
use Rattle.interp.specs.Entries.{EntryParts, entry_shape}

-- what locks are asked for: the footprint, and nothing where the declaration faults
abbrev pub locked_for : Option FootprintOf → FootprintOf
locked_for None = empty
locked_for (Some footprint) = footprint

-- the entry is over these tables, and so is its footprint
pub record IsEntryOver (tables : List TableShape) (entry : EntryParts) : Type 0 where
  pub of_tables : entry.request.proc.tables ≡ tables
  pub touches : IsFootprintOf tables (locked_for (footprint_of (entry_shape entry).footing))

-- each entry is over these tables, and so is its footprint, if it has one
abbrev pub AreEntriesOver : List TableShape → List EntryParts → Type 0
AreEntriesOver tables entries = AllByRecursion (IsEntryOver tables) entries
