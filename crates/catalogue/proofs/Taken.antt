-- The names of a map's entries.
use Rattle.std.proofs.Common.{◌≡◌, ℕ, Bool, true, false, cond, ◌||◌, List, [], ◌∷◌, ◌++◌, String, Global, string_bytes, is_some, Option, Some, refl, ap}
use Rattle.std.specs.Str.{bytes_eq}
use Rattle.std.specs.HashMap.{HashMap, get_by_text}
use Rattle.std.specs.Map.{lookup}
use Rattle.std.specs.String.{string_eq}
use Rattle.indexmap.specs.IndexMap.{insert_entry}
use Rattle.catalogue.specs.Shapes.{ColumnShape, TableShape, column_shape, columns_shape, table_shape, tables_shape}
use Rattle.values.specs.declared.value.ColType.{ColType}
use Rattle.catalogue.specs.declared.table.Table.{Table}
use Rattle.catalogue.specs.Reading.{is_column, is_table}

any_at : {V : Type 0} (b : Bool) (v : V) (o : Option V) (c : Bool) → is_some o ≡ c → is_some (cond b (Some v) o) ≡ (b || c)
any_at true v o c e = refl
any_at false v o c e = e

column_among : (name : List ℕ) (es : List (String Global × ColType)) → is_some (lookup (λ k. bytes_eq name (string_bytes k)) es) ≡ is_column name (columns_shape es)
column_among name [] = refl
column_among name (e ∷ es) = any_at (bytes_eq name (string_bytes e.0)) e.1 _ _ (column_among name es)

table_among : (name : List ℕ) (es : List (String Global × Table)) → is_some (lookup (λ k. bytes_eq name (string_bytes k)) es) ≡ is_table name (tables_shape es)
table_among name [] = refl
table_among name (e ∷ es) = any_at (bytes_eq name (string_bytes e.0)) e.1 _ _ (table_among name es)

pub column_taken : {S : Type 0} (m : HashMap (String Global) ColType S) (name : List ℕ) → is_some (get_by_text m name) ≡ is_column name (columns_shape m.entries)
column_taken m name = column_among name m.entries

pub table_taken : {S : Type 0} (m : HashMap (String Global) Table S) (name : List ℕ) → is_some (get_by_text m name) ≡ is_table name (tables_shape m.entries)
table_taken m name = table_among name m.entries

neither : (a b : Bool) → (a || b) ≡ false → (a ≡ false) × (b ≡ false)
neither true b e = absurd cc
neither false b e = (refl, e)

-- a new name goes last
pub column_new : (es : List (String Global × ColType)) (k : String Global) (v : ColType) → is_column (string_bytes k) (columns_shape es) ≡ false → columns_shape (insert_entry string_eq es k v) ≡ columns_shape es ++ column_shape (k, v) ∷ []
column_new [] k v h = refl
column_new (e ∷ es) k v h =
    let both = neither (bytes_eq (string_bytes k) (string_bytes e.0)) (is_column (string_bytes k) (columns_shape es)) h in
    rw both.0 (ap (λ (rest : List ColumnShape). column_shape e ∷ rest) (column_new es k v both.1))

pub table_new : (es : List (String Global × Table)) (k : String Global) (v : Table) → is_table (string_bytes k) (tables_shape es) ≡ false → tables_shape (insert_entry string_eq es k v) ≡ tables_shape es ++ table_shape (k, v) ∷ []
table_new [] k v h = refl
table_new (e ∷ es) k v h =
    let both = neither (bytes_eq (string_bytes k) (string_bytes e.0)) (is_table (string_bytes k) (tables_shape es)) h in
    rw both.0 (ap (λ (rest : List TableShape). table_shape e ∷ rest) (table_new es k v both.1))
