-- What the rows of a partition, by their keys, come to.
use Rattle.std.proofs.Common.{◌≡◌, ℕ, ◌+◌, ◌*◌, ◌<◌, ℤ, pos, ◌+ℤ◌, ◌-ℤ◌, ◌≤ℤ◌, List, [], ◌∷◌, suc, refl, sym, ap, ◌∙◌, arith}
use Rattle.std.proofs.lemmas.Int.{ints}
use Rattle.std.proofs.lemmas.List.{at_drop_more}
use Rattle.std.proofs.Math.ListN.{get_or}
use Rattle.std.specs.Prelude.{length, map, slice_get, drop}
use Rattle.std.specs.FinMap.{len, entries, len-entries}
use Rattle.std.specs.Borrow.{Bor}
use Rattle.values.specs.declared.name.RowName.{RowName}
use Rattle.catalogue.specs.Shapes.{TableShape}
use Rattle.values.specs.Database.{Database, RowOf}
use Rattle.footprint.specs.Declaration.{number_or}
use Rattle.meaning.specs.Partitions.{part_rows, keys_of, total}
use Rattle.workspace.specs.Scan.{by_key, referred, rows_in_part}
use Rattle.workspace.specs.Walks.{total_by_key}

as_many_by_key : (rows : List (RowName × RowOf)) → length (by_key rows) ≡ length rows
as_many_by_key [] = refl
as_many_by_key (row ∷ rows) = ap suc (as_many_by_key rows)

as_many_referred : (rows : List (ℕ × Bor RowOf)) → length (referred rows) ≡ length rows
as_many_referred [] = refl
as_many_referred (row ∷ rows) = ap suc (as_many_referred rows)

-- as many references lead to rows of a partition as it has rows
pub count_by_key : (tables : List TableShape) (table part : ℕ) (db : Database) (rows : List (ℕ × Bor RowOf))
    → referred rows ≡ rows_in_part tables table part db → length rows ≡ len (part_rows tables table part db)
count_by_key tables table part db rows e =
    sym (as_many_referred rows) ∙ ap length e ∙ as_many_by_key (entries (part_rows tables table part db)) ∙ sym (len-entries (part_rows tables table part db))

keys_of_referred : (rows : List (ℕ × Bor RowOf)) → map (λ (row : ℕ × RowOf). row.0) (referred rows) ≡ map (λ (row : ℕ × Bor RowOf). row.0) rows
keys_of_referred [] = refl
keys_of_referred (row ∷ rows) = ap (λ ks. row.0 ∷ ks) (keys_of_referred rows)

keys_of_named : (rows : List (RowName × RowOf)) → map (λ (row : ℕ × RowOf). row.0) (by_key rows) ≡ keys_of rows
keys_of_named [] = refl
keys_of_named (row ∷ rows) = ap (λ ks. row.0.key ∷ ks) (keys_of_named rows)

-- and their keys are those of its rows
pub keys_by_key : (tables : List TableShape) (table part : ℕ) (db : Database) (rows : List (ℕ × Bor RowOf))
    → referred rows ≡ rows_in_part tables table part db → map (λ (row : ℕ × Bor RowOf). row.0) rows ≡ keys_of (entries (part_rows tables table part db))
keys_by_key tables table part db rows e =
    sym (keys_of_referred rows) ∙ ap (map (λ (row : ℕ × RowOf). row.0)) e ∙ keys_of_named (entries (part_rows tables table part db))

total_of_named : (column : ℕ) (rows : List (RowName × RowOf)) → total_by_key column (by_key rows) ≡ total (pos 0) column rows
total_of_named column [] = refl
total_of_named column (row ∷ rows) = ap (λ (z : ℤ). number_or (pos 0) (slice_get row.1 column) +ℤ z) (total_of_named column rows)

-- and so is the total of a column
pub total_is : (tables : List TableShape) (table part column : ℕ) (db : Database) (rows : List (ℕ × Bor RowOf))
    → referred rows ≡ rows_in_part tables table part db → total_by_key column (referred rows) ≡ total (pos 0) column (entries (part_rows tables table part db))
total_is tables table part column db rows e = ap (total_by_key column) e ∙ total_of_named column (entries (part_rows tables table part db))

-- one row more
pub total_added : (column i : ℕ) (rows : List (ℕ × Bor RowOf)) (row : ℕ × Bor RowOf) (sum new v all : ℤ) → row ≡ get_or rows i row → i < length rows → new ≡ sum +ℤ v → v ≡ number_or (pos 0) (slice_get row.1.now column)
    → sum +ℤ total_by_key column (referred (drop i rows)) ≡ all → new +ℤ total_by_key column (referred (drop (i + 1) rows)) ≡ all
total_added column i rows row sum new v all there within e f h =
    let cut = at_drop_more (λ (left : List (ℕ × Bor RowOf)). total_by_key column (referred left)) rows i row within in
    let same = ap (λ (r : ℕ × Bor RowOf). number_or (pos 0) (slice_get r.1.now column)) (sym there) in
    omega (arith, ints, h, e, f, cut, same)

pub total_high : (i : ℕ) (sum new v : ℤ) → new ≡ sum +ℤ v → sum ≤ℤ pos (i * 9223372036854775808) → v ≤ℤ pos 9223372036854775808 → new ≤ℤ pos ((i + 1) * 9223372036854775808)
total_high i sum new v e h k = omega (arith, ints, e, h, k)

pub total_low : (i : ℕ) (sum new v : ℤ) → new ≡ sum +ℤ v → (pos 0 -ℤ pos (i * 9223372036854775808)) ≤ℤ sum → (pos 0 -ℤ pos 9223372036854775808) ≤ℤ v → (pos 0 -ℤ pos ((i + 1) * 9223372036854775808)) ≤ℤ new
total_low i sum new v e h k = omega (arith, ints, e, h, k)
