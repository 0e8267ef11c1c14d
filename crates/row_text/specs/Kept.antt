-- Claimed: what contracts promise to a reader rests on these words.
-- Digests of partitions that are kept.
use Rattle.std.specs.Prelude.{◌≡◌, ◌<◌, ℕ, List, Option, Some, option_and_then, option_map, slice_get}
use Rattle.std.specs.BTreeMap.{get}
use Rattle.std.specs.Ordering.{nat_cmp}
use Rattle.hex.specs.Hex.{encode_lower}
use Rattle.values.specs.Database.{Database}
use Rattle.catalogue.specs.Shapes.{TableShape}
use Rattle.row_text.specs.declared.kept.KeptDigests.{KeptDigests}
use Rattle.row_text.specs.Partitions.{partition_count, partition_digest}

-- the digest that is kept for a partition
abbrev pub kept_at : KeptDigests → ℕ → ℕ → Option (List ℕ)
kept_at kept table part =
    option_map encode_lower (option_and_then (λ digests. get nat_cmp digests part) (slice_get kept.tables.items table))

-- each digest that is kept is of a partition that a table of these has, and is the digest of that partition's row lines
pub record AreKept (tables : List TableShape) (db : Database) (kept : KeptDigests) : Type 0 where
  pub within : (table part : ℕ) (digest : List ℕ) → kept_at kept table part ≡ Some digest
      → part < partition_count tables table
  pub digests : (table part : ℕ) (digest : List ℕ) → kept_at kept table part ≡ Some digest
      → partition_digest tables table part db ≡ Some digest

-- a partition that a table of these has
abbrev pub IsPartitionOf : List TableShape → ℕ × ℕ → Type 0
IsPartitionOf tables part = part.1 < partition_count tables part.0

-- the digest of a partition's row lines is kept, and none without rows
abbrev pub IsKept : List TableShape → Database → KeptDigests → ℕ × ℕ → Type 0
IsKept tables db kept part = kept_at kept part.0 part.1 ≡ partition_digest tables part.0 part.1 db
