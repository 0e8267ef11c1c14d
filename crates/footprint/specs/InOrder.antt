-- Of the code: invariants and steps; no promise rests on these words.
-- How a footprint keeps its rights.
use Rattle.std.specs.Prelude.{⊤, List}
use Rattle.std.specs.FinMap.{from_entries}
use Rattle.proclang_types.specs.declared.right.Right.{Right}
use Rattle.footprint.specs.declared.resource.Resource.{Resource}
use Rattle.footprint.specs.declared.storage.Storage.{Storage}
use Rattle.footprint.specs.declared.storage.Storage.TheVariants.{List as OfList, Tree as OfTree}
use Rattle.footprint.specs.Rights.{FootprintOf}
use Rattle.footprint.specs.InTreeOrder.{IsInTreeOrder}

-- the footprint that has these rights
abbrev pub footprint_of : List (Resource × Right) → FootprintOf
footprint_of entries = from_entries entries

-- the resources and the rights on them, as they are kept
abbrev pub listed : Storage → List (Resource × Right)
listed (OfList list) = list.items
listed (OfTree tree) = tree.entries

-- a list is in tree order; a tree keeps its order itself
abbrev pub IsInOrder : Storage → Type 0
IsInOrder (OfList list) = IsInTreeOrder list.items
IsInOrder (OfTree tree) = ⊤
