-- What a walk has come to so far, and what is ahead.
use Rattle.std.proofs.Common.{◌≡◌, ℕ, ◌+◌, ◌++◌, List, [], ◌∷◌, sym, ap, ◌∙◌, Option, Some, None, add-one}
use Rattle.std.specs.Prelude.{length}
use Rattle.std.specs.FinMap.{get}
use Rattle.std.specs.Borrow.{Bor}
use Rattle.std.proofs.lemmas.List.{append_assoc, append-nil, map-append}
use Rattle.values.specs.declared.name.RowName.{RowName}
use Rattle.catalogue.specs.Shapes.{TableShape}
use Rattle.values.specs.Database.{Database, RowOf}
use Rattle.workspace.specs.Scan.{by_key, referred, rows_in_part}
use Rattle.workspace.specs.Walks.{IsNextKey, rows_ahead}
use Rattle.workspace.proofs.Ahead.{rows_on, rows_done, rows_start}

-- how many rows are ahead
abbrev pub count_ahead : List TableShape → ℕ → ℕ → Option ℕ → Database → ℕ
count_ahead tables table part after db = length (rows_ahead tables table part after db)

pub count_on : (tables : List TableShape) (db : Database) (table part : ℕ) (after : Option ℕ) (key : ℕ) → IsNextKey tables db table part after (Some key)
    → count_ahead tables table part after db ≡ count_ahead tables table part (Some key) db + 1
count_on tables db table part after key m = ap length (rows_on tables db table part after key m.0 m.1) ∙ sym (add-one _)

-- ---- the rows

-- a row that may be there in front of others, by their keys
abbrev by_row : ℕ → Option RowOf → List (RowName × RowOf) → List (ℕ × RowOf)
by_row key None rows = by_key rows
by_row key (Some row) rows = (key, row) ∷ by_key rows

-- with those that were gathered the rows ahead are all
pub rows_begun : (tables : List TableShape) (db : Database) (table part : ℕ) (gathered : List (ℕ × Bor RowOf)) → gathered ≡ []
    → referred gathered ++ by_key (rows_ahead tables table part None db) ≡ rows_in_part tables table part db
rows_begun tables db table part gathered e =
    ap (λ (rows : List (ℕ × Bor RowOf)). referred rows ++ by_key (rows_ahead tables table part None db)) e ∙ ap by_key (rows_start tables db table part)

-- one row more
pub rows_pushed : (tables : List TableShape) (db : Database) (table part : ℕ) (after : Option ℕ) (key : ℕ) (row : Bor RowOf) (gathered new : List (ℕ × Bor RowOf)) (all : List (ℕ × RowOf))
    → IsNextKey tables db table part after (Some key) → get db (record { table = table; key = key }) ≡ Some row.now → new ≡ gathered ++ (key, row) ∷ []
    → referred gathered ++ by_key (rows_ahead tables table part after db) ≡ all → referred new ++ by_key (rows_ahead tables table part (Some key) db) ≡ all
rows_pushed tables db table part after key row gathered new all m there e i =
    ap (λ (rows : List (ℕ × Bor RowOf)). referred rows ++ by_key (rows_ahead tables table part (Some key) db)) e
    ∙ ap (λ (rows : List (ℕ × RowOf)). rows ++ by_key (rows_ahead tables table part (Some key) db)) (map-append (λ (row : ℕ × Bor RowOf). (row.0, row.1.now)) gathered ((key, row) ∷ []))
    ∙ append_assoc (referred gathered) ((key, row.now) ∷ []) (by_key (rows_ahead tables table part (Some key) db))
    ∙ ap (λ (r : Option RowOf). referred gathered ++ by_row key r (rows_ahead tables table part (Some key) db)) (sym there ∙ m.1.row)
    ∙ ap (λ (rows : List (RowName × RowOf)). referred gathered ++ by_key rows) (sym (rows_on tables db table part after key m.0 m.1)) ∙ i

-- no row more
pub rows_left : (tables : List TableShape) (db : Database) (table part : ℕ) (after : Option ℕ) (gathered : List (ℕ × Bor RowOf)) (all : List (ℕ × RowOf)) → IsNextKey tables db table part after None
    → referred gathered ++ by_key (rows_ahead tables table part after db) ≡ all → referred gathered ≡ all
rows_left tables db table part after gathered all m i =
    sym (append-nil (referred gathered)) ∙ ap (λ (rows : List (RowName × RowOf)). referred gathered ++ by_key rows) (sym (rows_done tables db table part after m)) ∙ i
