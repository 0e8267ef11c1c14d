-- Words of a row line, written from the last byte on.
use Rattle.std.proofs.Common.{◌≡◌, ℕ, ◌+◌, ◌-◌, ◌<◌, ◌≤◌, List, [], ◌∷◌, ◌++◌, length, drop, codes, get_or, append_assoc, append-nil, sym, ap, ◌∙◌, arith}
use Rattle.std.specs.Borrow.{Bor}
use Rattle.std.specs.Fmt.{decimal}
use Rattle.std.proofs.Math.ListN.{set}
use Rattle.std.proofs.lemmas.List.{drop_all, drop_more, drop-set}
use Rattle.catalogue.specs.Shapes.{TableShape}
use Rattle.values.specs.declared.name.RowName.{RowName}
use Rattle.values.specs.declared.value.Value.{Value}
use Rattle.values.specs.Database.{RowOf}
use Rattle.row_text.specs.Feeding.{row_words, table_lines}
use Rattle.row_text.specs.Texts.{line_end, row_line, table_name, value_text, values_text}

-- a byte is set before those that are written
pub set_before : (bytes : List ℕ) (start byte : ℕ) → 0 < start → start ≤ length bytes → drop (start - 1) (set bytes (start - 1) byte) ≡ byte ∷ drop start bytes
set_before bytes start byte some within =
    let lt : start - 1 < length bytes = omega arith in
    let e : start - 1 + 1 ≡ start = omega arith in
    drop-set bytes (start - 1) byte lt ∙ ap (λ n. byte ∷ drop n bytes) e

pub no_values : (values : List Value) (end : List ℕ) → values_text (drop (length values) values) ++ end ≡ end
no_values values end = ap (λ vs. values_text vs ++ end) (drop_all (length values) values (omega arith))

-- the value before those that are written
pub value_before : (values : List Value) (left : ℕ) (v : Value) (end : List ℕ) → 0 < left → left ≤ length values → v ≡ get_or values (left - 1) v →
    (codes " " ++ value_text v) ++ (values_text (drop left values) ++ end) ≡ values_text (drop (left - 1) values) ++ end
value_before values left v end some within is =
    let lt : left - 1 < length values = omega arith in
    let e : left - 1 + 1 ≡ left = omega arith in
    let split : drop (left - 1) values ≡ v ∷ drop left values =
    drop_more values (left - 1) v lt ∙ ap (λ x. x ∷ drop (left - 1 + 1) values) (sym is) ∙ ap (λ n. v ∷ drop n values) e in
    sym (append_assoc (codes " " ++ value_text v) (values_text (drop left values)) end) ∙ ap (λ vs. values_text vs ++ end) (sym split)

-- a row line is the table's name and its words
pub line_parts : (tables : List TableShape) (name : RowName) (row : RowOf) → table_name tables name.table ++ row_words name.key row ≡ row_line tables name row
unfolding row_line
line_parts tables name row = simp append_assoc

-- the words of a row before what is at the end
pub words_before : (key : ℕ) (values : RowOf) (end : List ℕ) →
    (codes " " ++ decimal key) ++ (values_text values ++ (line_end ++ end)) ≡ row_words key values ++ end
words_before key values end = simp append_assoc

-- the line of the row before those whose lines are written
pub line_before : (tables : List TableShape) (table : ℕ) (rows : List (ℕ × Bor RowOf)) (left : ℕ) (row : ℕ × Bor RowOf) (word : List ℕ) → 0 < left → left ≤ length rows
    → row ≡ get_or rows (left - 1) row → word ≡ table_name tables table
    → (word ++ row_words row.0 row.1.now) ++ table_lines tables table (drop left rows) ≡ table_lines tables table (drop (left - 1) rows)
line_before tables table rows left row word some within is called =
    let lt : left - 1 < length rows = omega arith in
    let e : left - 1 + 1 ≡ left = omega arith in
    let split : drop (left - 1) rows ≡ row ∷ drop left rows =
    drop_more rows (left - 1) row lt ∙ ap (λ x. x ∷ drop (left - 1 + 1) rows) (sym is) ∙ ap (λ n. row ∷ drop n rows) e in
    ap (λ w. (w ++ row_words row.0 row.1.now) ++ table_lines tables table (drop left rows)) called
    ∙ ap (λ line. line ++ table_lines tables table (drop left rows)) (line_parts tables (record { table = table; key = row.0 }) row.1.now)
    ∙ ap (table_lines tables table) (sym split)

-- what is written alone at the end is the row line
pub line_written : (tables : List TableShape) (name : RowName) (row : RowOf) (word end line : List ℕ) → word ≡ table_name tables name.table → end ≡ [] →
    line ≡ (word ++ row_words name.key row) ++ end → line ≡ row_line tables name row
line_written tables name row word end line called none written =
    written ∙ ap (λ e. (word ++ row_words name.key row) ++ e) none ∙ append-nil (word ++ row_words name.key row)
    ∙ ap (λ w. w ++ row_words name.key row) called ∙ line_parts tables name row
