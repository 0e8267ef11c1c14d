-- The lines of partitions.
use Rattle.std.proofs.Common.{◌≡◌, ◌==◌, ℕ, ◌+◌, Bool, true, false, cond, List, [], ◌∷◌, ◌++◌, append_assoc, append-nil, length, map, Option, Some, None, refl, sym, ap, ◌∙◌, arith}
use Rattle.std.specs.Borrow.{Bor}
use Rattle.std.specs.FinMap.{entries, get, same_map}
use Rattle.std.specs.List.{concat, range_with_len}
use Rattle.std.proofs.lemmas.Bool.{eqb-true}
use Rattle.std.proofs.lemmas.List.Folds.{concat-append}
use Rattle.std.proofs.lemmas.List.FromFn.{map-range_with_len_more}
use Rattle.catalogue.specs.Shapes.{TableShape}
use Rattle.values.specs.Database.{Database, RowOf}
use Rattle.meaning.specs.Partitions.{is_in_part, part_rows}
use Rattle.meaning.proofs.Partitions.{get_part, in_table}
use Rattle.workspace.specs.Scan.{by_key, referred, rows_in_part}
use Rattle.row_text.specs.Feeding.{table_lines}
use Rattle.row_text.specs.Partitions.{digest_of_row_lines, line_of_partition, partition_digest, partition_line, AgreeInPartition}
use Rattle.row_text.specs.Texts.{digest, row_lines}
use Rattle.row_text.proofs.Fed.{by_names, by_references, keyed_lines}
use Rattle.row_text.proofs.Gathering.{part_kept}
use Rattle.row_text.proofs.MergedRows.{exact_names, names_total, Rows}

-- ---- the digest of a partition

lines_in_part : (tables : List TableShape) (table part : ℕ) (db : Database) (rows : List (ℕ × Bor RowOf)) → referred rows ≡ rows_in_part tables table part db
    → table_lines tables table rows ≡ row_lines tables (entries (part_rows tables table part db))
lines_in_part tables table part db rows is =
    by_references tables table rows ∙ ap (keyed_lines tables table) (is ∙ ap by_key (part_kept tables table part db))
    ∙ by_names tables table (is_in_part tables table part) (in_table tables table part) (entries db) ∙ ap (row_lines tables) (sym (part_kept tables table part db))

none_of : (tables : List TableShape) (es : Rows) → [] ≡ by_key es → digest_of_row_lines tables es ≡ None
none_of tables [] e = refl
none_of tables (x ∷ es) e = absurd cc

-- a partition without rows
pub no_digest : (tables : List TableShape) (table part : ℕ) (db : Database) (rows : List (ℕ × Bor RowOf)) → (length rows == 0) ≡ true → referred rows ≡ rows_in_part tables table part db →
    None ≡ partition_digest tables table part db
no_digest tables table part db [] empty is = sym (none_of tables (entries (part_rows tables table part db)) is)
no_digest tables table part db (row ∷ rows) empty is = absurd (let none : length (row ∷ rows) ≡ 0 = eqb-true (length (row ∷ rows)) 0 empty in omega arith)

some_of : (tables : List TableShape) (es : Rows) (row : ℕ × Bor RowOf) (rows : List (ℕ × Bor RowOf)) → referred (row ∷ rows) ≡ by_key es → digest_of_row_lines tables es ≡ Some (digest (row_lines tables es))
some_of tables [] row rows e = absurd cc
some_of tables (x ∷ es) row rows e = refl

-- one with rows
pub its_digest : (tables : List TableShape) (table part : ℕ) (db : Database) (rows : List (ℕ × Bor RowOf)) (text : List ℕ) → (length rows == 0) ≡ false → referred rows ≡ rows_in_part tables table part db →
    text ≡ digest (table_lines tables table rows) → Some text ≡ partition_digest tables table part db
its_digest tables table part db [] text some is made = absurd cc
its_digest tables table part db (row ∷ rows) text some is made =
    ap (λ (t : List ℕ). Some t) (made ∙ ap digest (lines_in_part tables table part db (row ∷ rows) is)) ∙ sym (some_of tables (entries (part_rows tables table part db)) row rows is)

-- the line of a partition whose digest was made
pub line_made : (tables : List TableShape) (table part : ℕ) (db : Database) (found : Option (List ℕ)) → found ≡ partition_digest tables table part db →
    partition_line tables table part found ≡ line_of_partition tables table db part
line_made tables table part db found is = ap (partition_line tables table part) is

-- ---- texts one after another

-- one text more
pub one_more : (text : ℕ → List ℕ) (count : ℕ) (start now new : List ℕ) → now ≡ start ++ concat (map text (range_with_len 0 count)) → new ≡ now ++ text count →
    new ≡ start ++ concat (map text (range_with_len 0 (count + 1)))
one_more text count start now new so_far more =
    let texts : List (List ℕ) = map text (range_with_len 0 count) in
    let joined : concat texts ++ text count ≡ concat (map text (range_with_len 0 (count + 1))) =
    ap (λ t. concat texts ++ t) (sym (append-nil (text count))) ∙ sym (concat-append texts (text count ∷ []))
    ∙ ap concat (sym (map-range_with_len_more text 0 count count (none_before count))) in
    more ∙ ap (λ t. t ++ text count) so_far ∙ append_assoc start (concat texts) (text count) ∙ ap (λ t. start ++ t) joined
  where
    none_before : (n : ℕ) → 0 + n ≡ n
    none_before n = omega arith

-- ---- rows of other partitions

alike : (b : Bool) (o p : Option RowOf) → (b ≡ true → o ≡ p) → cond b o None ≡ cond b p None
alike true o p h = h refl
alike false o p h = refl

pub digest_of_its_rows : (tables : List TableShape) (table part : ℕ) (one two : Database) → AgreeInPartition tables table part one two →
    partition_digest tables table part one ≡ partition_digest tables table part two
digest_of_its_rows tables table part one two agree =
    let same : part_rows tables table part one ≡ part_rows tables table part two = same_map names_total exact_names _ _ (λ q.
    get_part tables table part one q ∙ alike (is_in_part tables table part q) (get one q) (get two q) (agree.same q) ∙ sym (get_part tables table part two q)) in
    ap (λ (rows : Database). digest_of_row_lines tables (entries rows)) same

pub line_of_its_rows : (tables : List TableShape) (table part : ℕ) (one two : Database) → AgreeInPartition tables table part one two →
    line_of_partition tables table one part ≡ line_of_partition tables table two part
line_of_its_rows tables table part one two agree = ap (partition_line tables table part) (digest_of_its_rows tables table part one two agree)
