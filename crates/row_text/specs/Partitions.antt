-- Claimed: what contracts promise to a reader rests on these words.
-- Partitions as lines, each with the digest of its rows, and the text of rows that is digested.
use Rattle.std.specs.Prelude.{◌≡◌, ℕ, true, List, [], ◌∷◌, ◌++◌, length, map, codes, Option, Some, None, option_map, unwrap_or, slice_get}
use Rattle.std.specs.Fmt.{decimal}
use Rattle.std.specs.FinMap.{entries, get}
use Rattle.std.specs.List.{concat, range_with_len}
use Rattle.values.specs.declared.name.RowName.{RowName}
use Rattle.values.specs.Database.{Database, RowOf}
use Rattle.catalogue.specs.Shapes.{TableShape, partitions}
use Rattle.meaning.specs.Partitions.{is_in_part, part_rows}
use Rattle.row_text.specs.declared.form.DigestForm.{DigestForm}
use Rattle.row_text.specs.declared.form.DigestForm.TheVariants.{Rows, Partitions}
use Rattle.row_text.specs.Texts.{digest, line_end, row_lines, row_text, table_name}

-- the digest of the row lines of rows, where there are any
abbrev pub digest_of_row_lines : List TableShape → List (RowName × RowOf) → Option (List ℕ)
digest_of_row_lines tables [] = None
digest_of_row_lines tables (row ∷ rows) = Some (digest (row_lines tables (row ∷ rows)))

-- the digest of the row lines of a partition, by ascending key; none without rows
abbrev pub partition_digest : List TableShape → ℕ → ℕ → Database → Option (List ℕ)
partition_digest tables table part db = digest_of_row_lines tables (entries (part_rows tables table part db))

-- TABLE PARTITION D, for a partition with that digest; no line without one
abbrev pub partition_line : List TableShape → ℕ → ℕ → Option (List ℕ) → List ℕ
partition_line tables table part None = []
partition_line tables table part (Some d) =
    table_name tables table ++ codes " " ++ decimal part ++ codes " " ++ d ++ line_end

-- the line of a partition of a database
abbrev pub line_of_partition : List TableShape → ℕ → Database → ℕ → List ℕ
line_of_partition tables table db part = partition_line tables table part (partition_digest tables table part db)

-- how many partitions a table has
abbrev pub partition_count : List TableShape → ℕ → ℕ
partition_count tables table = unwrap_or (option_map (λ t. partitions t.split) (slice_get tables table)) 0

-- the lines of a table's partitions, partitions ascending
abbrev pub partition_lines : List TableShape → Database → ℕ → List ℕ
partition_lines tables db table =
    concat (map (line_of_partition tables table db) (range_with_len 0 (partition_count tables table)))

-- rule: report.partitions
-- the lines of all partitions, tables in declared order
abbrev pub partition_text : List TableShape → Database → List ℕ
partition_text tables db = concat (map (partition_lines tables db) (range_with_len 0 (length tables)))

-- the text of a database's rows that is digested
abbrev pub digested_text : DigestForm → List TableShape → Database → List ℕ
digested_text Rows tables db = row_text tables db
digested_text Partitions tables db = partition_text tables db

-- two databases have the same rows in a partition
pub record AgreeInPartition (tables : List TableShape) (table part : ℕ) (one two : Database) : Type 0 where
  pub same : (name : RowName) → is_in_part tables table part name ≡ true → get one name ≡ get two name
