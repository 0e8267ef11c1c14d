-- Claimed: what contracts promise to a reader rests on these words.
-- Lists in tree order, and places in them.
use Rattle.std.specs.Prelude.{◌≡◌, ◌<◌, ◌≤◌, ℕ, List, length, slice_index_or}
use Rattle.std.specs.declared.cmp.Ordering.TheVariants.{Less, Greater}
use Rattle.std.specs.List.Sorted.{IsStrictlySortedBy}
use Rattle.std.specs.Map.{keys_of}
use Rattle.footprint.specs.declared.resource.Resource.{Resource}
use Rattle.footprint.specs.Tree.{resource_cmp}

-- resources in tree order, each once, each with a value
abbrev pub IsInTreeOrder : {V : Type 0} → List (Resource × V) → Type 0
IsInTreeOrder entries = IsStrictlySortedBy resource_cmp (keys_of entries)

-- the entry at a place is on the resource
pub record IsAt {V : Type 0} (entries : List (Resource × V)) (resource : Resource) (place : ℕ) : Type 0 where
  pub in_range : place < length entries
  pub on : (d : Resource × V) → (slice_index_or entries place d).0 ≡ resource

-- the place where an entry on the resource goes: the entries before it come before the resource in tree order, those
-- from it on come after the resource
pub record IsGapFor {V : Type 0} (entries : List (Resource × V)) (resource : Resource) (place : ℕ) : Type 0 where
  pub in_range : place ≤ length entries
  pub before : (j : ℕ) (d : Resource × V) → j < place → resource_cmp (slice_index_or entries j d).0 resource ≡ Less
  pub after : (j : ℕ) (d : Resource × V) → place ≤ j → j < length entries
      → resource_cmp (slice_index_or entries j d).0 resource ≡ Greater
