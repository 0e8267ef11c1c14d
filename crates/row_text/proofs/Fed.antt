-- What a hasher was fed.
use Rattle.std.proofs.Common.{◌≡◌, ℕ, ◌==◌, Bool, true, false, cond, List, [], ◌∷◌, ◌++◌, ◌+◌, ◌<◌, ◌≤◌, drop, get_or, length, append_assoc, append-nil, refl, sym, ap, ◌∙◌, subst, arith}
use Rattle.std.specs.Borrow.{Bor}
use Rattle.std.proofs.lemmas.Bool.Decides.{nat_tests}
use Rattle.std.proofs.lemmas.List.{drop_all, drop_more}
use Rattle.std.proofs.lemmas.List.Folds.{drop_split}
use Rattle.std.specs.Prelude.{slice_range}
use Rattle.sha2.specs.Hashers.{Holds256}
use Rattle.values.specs.declared.name.RowName.{RowName}
use Rattle.catalogue.specs.Shapes.{TableShape}
use Rattle.values.specs.Database.{Database, RowOf}
use Rattle.workspace.specs.Scan.{by_key, referred}
use Rattle.row_text.specs.declared.feed.Feed.{Feed}
use Rattle.row_text.specs.Texts.{row_line, row_lines}
use Rattle.row_text.specs.Feeding.{IsFed, table_lines}
use Rattle.row_text.specs.Merge.{is_of_table, rows_of}
use Rattle.row_text.proofs.MergedRows.{Rows, kept}
use Rattle.row_text.proofs.Sorting.{Keyed}
use Rattle.std.specs.FinMap.{entries}

-- a line was appended
pub more_fed : (old new : Feed) (all line : List ℕ) → new.hasher ≡ old.hasher → new.text.items ≡ old.text.items ++ line → IsFed old all → IsFed new (all ++ line)
more_fed old new all line same more is =
    (is.0, subst (λ h. Holds256 h is.0) (sym same) is.1, ap (λ t. is.0 ++ t) more ∙ sym (append_assoc is.0 old.text.items line) ∙ ap (λ t. t ++ line) is.2)

-- all was given
pub all_given : (feed : Feed) (all : List ℕ) → feed.text.items ≡ [] → IsFed feed all → Holds256 feed.hasher all
all_given feed all none is = subst (Holds256 feed.hasher) (sym (append-nil is.0) ∙ ap (λ t. is.0 ++ t) (sym none) ∙ is.2) is.1

-- the line of the next row
pub more_lines : (tables : List TableShape) (table : ℕ) (rows : List (ℕ × Bor RowOf)) (at : ℕ) (name : RowName) (row : ℕ × Bor RowOf) (now total : List ℕ) → at < length rows
    → row ≡ get_or rows at row → name ≡ record { table = table; key = row.0 } → now ++ table_lines tables table (drop at rows) ≡ total
    → (now ++ row_line tables name row.1.now) ++ table_lines tables table (drop (at + 1) rows) ≡ total
more_lines tables table rows at name row now total l here is so_far =
    append_assoc now (row_line tables name row.1.now) (table_lines tables table (drop (at + 1) rows))
    ∙ ap (λ n. now ++ (row_line tables n row.1.now ++ table_lines tables table (drop (at + 1) rows))) is
    ∙ ap (λ x. now ++ table_lines tables table (x ∷ drop (at + 1) rows)) here
    ∙ ap (λ xs. now ++ table_lines tables table xs) (sym (drop_more rows at row l)) ∙ so_far

pub all_lines : (tables : List TableShape) (table : ℕ) (rows : List (ℕ × Bor RowOf)) (at : ℕ) (now total : List ℕ) → length rows ≤ at → now ++ table_lines tables table (drop at rows) ≡ total → now ≡ total
all_lines tables table rows at now total l so_far =
    sym (append-nil now) ∙ ap (λ xs. now ++ table_lines tables table xs) (sym (drop_all at rows l)) ∙ so_far

-- the lines of rows, and then of others
pub lines_of_both : (tables : List TableShape) (table : ℕ) (front back : List (ℕ × Bor RowOf)) → table_lines tables table front ++ table_lines tables table back ≡ table_lines tables table (front ++ back)
lines_of_both tables table [] back = refl
lines_of_both tables table (row ∷ front) back =
    append_assoc (row_line tables (record { table = table; key = row.0 }) row.1.now) (table_lines tables table front) (table_lines tables table back)
    ∙ ap (λ rest. row_line tables (record { table = table; key = row.0 }) row.1.now ++ rest) (lines_of_both tables table front back)

-- the lines of the rows from one place to another
pub few_lines : (tables : List TableShape) (table : ℕ) (rows : List (ℕ × Bor RowOf)) (at end : ℕ) (now total : List ℕ) → at ≤ end → now ++ table_lines tables table (drop at rows) ≡ total
    → (now ++ table_lines tables table (slice_range rows at end)) ++ table_lines tables table (drop end rows) ≡ total
few_lines tables table rows at end now total l so_far =
    append_assoc now (table_lines tables table (slice_range rows at end)) (table_lines tables table (drop end rows))
    ∙ ap (λ lines. now ++ lines) (lines_of_both tables table (slice_range rows at end) (drop end rows) ∙ ap (table_lines tables table) (sym (drop_split rows at end l))) ∙ so_far

abbrev pub keyed_lines : List TableShape → ℕ → Keyed → List ℕ
keyed_lines tables table [] = []
keyed_lines tables table (row ∷ rows) = row_line tables (record { table = table; key = row.0 }) row.1 ++ keyed_lines tables table rows

pub by_references : (tables : List TableShape) (table : ℕ) (rows : List (ℕ × Bor RowOf)) → table_lines tables table rows ≡ keyed_lines tables table (referred rows)
by_references tables table [] = refl
by_references tables table (row ∷ rows) = ap (λ rest. row_line tables (record { table = table; key = row.0 }) row.1.now ++ rest) (by_references tables table rows)

is_number : (n m : ℕ) → (n == m) ≡ true → n ≡ m
is_number n m e = grind (arith, nat_tests)

-- rows at names that pass a test, all of one table
pub by_names : (tables : List TableShape) (table : ℕ) (P : RowName → Bool) → ((q : RowName) → P q ≡ true → q.table ≡ table) → (es : Rows) → keyed_lines tables table (by_key (kept P es)) ≡ row_lines tables (kept P es)
by_names tables table P of [] = refl
by_names tables table P of (e ∷ es) = elim (P e.0) as (λ (b : Bool). P e.0 ≡ b
    → keyed_lines tables table (by_key (cond b (e ∷ kept P es) (kept P es))) ≡ row_lines tables (cond b (e ∷ kept P es) (kept P es))) [
      | true ↦ λ is.
          ap (λ t. row_line tables (record { table = t; key = e.0.key }) e.1 ++ keyed_lines tables table (by_key (kept P es))) (sym (of e.0 is))
          ∙ ap (λ rest. row_line tables e.0 e.1 ++ rest) (by_names tables table P of es)
      | false ↦ λ is. by_names tables table P of es
    ] refl

-- the lines of the rows of a table
pub lines_are : (tables : List TableShape) (table : ℕ) (db : Database) (rows : List (ℕ × Bor RowOf)) → referred rows ≡ by_key (rows_of table db) → table_lines tables table rows ≡ row_lines tables (rows_of table db)
lines_are tables table db rows is =
    by_references tables table rows ∙ ap (keyed_lines tables table) is ∙ by_names tables table (is_of_table table) (λ q e. is_number q.table table e) (entries db)
