-- Of the code: invariants and steps; no promise rests on these words.
-- What is left of a footprint that is gone through.
use Rattle.std.specs.Prelude.{List}
use Rattle.proclang_types.specs.declared.right.Right.{Right}
use Rattle.footprint.specs.declared.resource.Resource.{Resource}
use Rattle.footprint.specs.declared.iter.Left.{Left}
use Rattle.footprint.specs.declared.iter.Left.TheVariants.{OfList, OfTree}

-- the entries that are left, in order
abbrev pub left_of : Left → List (Resource × Right)
left_of (OfList entries) = entries.now
left_of (OfTree entries) = entries
