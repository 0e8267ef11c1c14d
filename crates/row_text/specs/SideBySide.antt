-- Of the code: invariants and steps; no promise rests on these words.
-- Digests of partitions that are made side by side.
use Rattle.std.specs.Prelude.{◌≡◌, ℕ, List, IfOk, option_map}
use Rattle.hex.specs.Hex.{encode_lower}
use Rattle.values.specs.Database.{Database}
use Rattle.catalogue.specs.Shapes.{TableShape}
use Rattle.row_text.specs.declared.side_by_side.Hashing.{Hashing}
use Rattle.row_text.specs.Partitions.{partition_digest}

-- which partition is hashed
abbrev pub partition_of : Hashing → ℕ × ℕ
partition_of hashing = (hashing.table, hashing.part)

-- what was made, if anything was, is the hash of the partition's row lines, and none without rows
abbrev pub IsMade : List TableShape → Database → Hashing → Type 0
IsMade tables db hashing = IfOk hashing.made (λ hash.
    option_map encode_lower hash ≡ partition_digest tables hashing.table hashing.part db)
