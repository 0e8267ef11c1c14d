-- Texts of rows under two catalogues that differ in splits alone.
use Rattle.std.proofs.Common.{◌≡◌, ℕ, zero, suc, nat_lt, List, [], ◌∷◌, length, filter, option_map, unwrap_or, slice_get, refl, sym, ap, ◌∙◌}
use Rattle.std.specs.FinMap.{entries}
use Rattle.values.specs.declared.name.RowName.{RowName}
use Rattle.values.specs.Database.{Database, RowOf}
use Rattle.catalogue.specs.Shapes.{TableShape}
use Rattle.catalogue.specs.Schemas.{TableSchema, schema_of, HaveSameSchema}
use Rattle.row_text.specs.Texts.{table_name, row_line, row_lines, row_text}

abbrev name_in : List TableSchema → ℕ → List ℕ
name_in schema table = unwrap_or (option_map (λ (t : TableSchema). t.name) (slice_get schema table)) []

name_is : (ts : List TableShape) (table : ℕ) → table_name ts table ≡ name_in (schema_of ts) table
name_is [] table = refl
name_is (t ∷ ts) zero = refl
name_is (t ∷ ts) (suc table) = name_is ts table

count_is : (ts : List TableShape) → length ts ≡ length (schema_of ts)
count_is [] = refl
count_is (t ∷ ts) = ap suc (count_is ts)

module _ (ts us : List TableShape) (same : HaveSameSchema ts us) where
  same_name : (table : ℕ) → table_name ts table ≡ table_name us table
  same_name table = name_is ts table ∙ ap (λ s. name_in s table) same ∙ sym (name_is us table)

  same_count : length ts ≡ length us
  same_count = count_is ts ∙ ap length same ∙ sym (count_is us)

  same_line : (name : RowName) (row : RowOf) → row_line ts name row ≡ row_line us name row
  unfolding row_line
  same_line name row = rw (same_name name.table) refl

  same_lines : (es : List (RowName × RowOf)) → row_lines ts es ≡ row_lines us es
  same_lines [] = refl
  same_lines (e ∷ es) = rw (same_line e.0 e.1, same_lines es) refl

pub same_text : (ts us : List TableShape) (db : Database) → HaveSameSchema ts us → row_text ts db ≡ row_text us db
same_text ts us db same =
    same_lines ts us same (filter (λ e. nat_lt e.0.table (length ts)) (entries db))
    ∙ ap (λ (n : ℕ). row_lines us (filter (λ e. nat_lt e.0.table n) (entries db))) (same_count ts us same)
