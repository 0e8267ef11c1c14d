-- What fits tables fits all tables of the same columns.
use Rattle.std.proofs.Common.{◌≡◌, ℕ, zero, suc, ◌<◌, ◌⊎◌, inl, inr, List, [], ◌∷◌, ◌++◌, length, map, refl, sym, ap, subst, ◌∙◌, Option, Some, None, option_map, unwrap_or, slice_get}
use Rattle.std.specs.Prelude.{option_and_then}
use Rattle.std.specs.List.{AllByRecursion}
use Rattle.values.specs.declared.value.ColType.{ColType}
use Rattle.values.specs.declared.value.ColType.TheVariants as types
use Rattle.catalogue.specs.Shapes.{ColumnShape, TableShape}
use Rattle.catalogue.specs.Schemas.{TableSchema, schema_of, HaveSameSchema}
use Rattle.proclang_types.specs.Syntax.{IntSyntax, number, variable, binary, count_rows, sum_column, BoolSyntax, compare_ints, compare_texts, both, either, negated, row_exists, ValueSyntax, int_value, text_value, StmtSyntax, assign, get, put, insert_row, delete_row, choose, for_numbers, for_keys, abort, reply, BlockSyntax, no_statements, followed, EntrySyntax, row_entry, rows_entry, part_entry, table_entry, db_entry, FootprintSyntax, declared_by, found_by_recon, block_of, ProcSyntax}
use Rattle.proclang_types.specs.Typing.{column_kind, column_kinds, IntFits, BoolFits, ValueFits, kind_of, declared, scope_after, in_loop, StmtFits, BlockFits, EntryFits, FootprintFits, kinds_of, ProcFits}

-- ---- what is asked of tables is said by their columns

kind_in : List TableSchema → ℕ → ℕ → Option ColType
kind_in schema table column = option_and_then (λ (t : TableSchema). option_map (λ (c : ColumnShape). c.kind) (slice_get t.columns column)) (slice_get schema table)

kinds_in : List TableSchema → ℕ → Option (List ColType)
kinds_in schema table = option_map (λ (t : TableSchema). map (λ (c : ColumnShape). c.kind) t.columns) (slice_get schema table)

kind_is : (ts : List TableShape) (table column : ℕ) → column_kind ts table column ≡ kind_in (schema_of ts) table column
unfolding kind_in
kind_is [] table column = refl
kind_is (t ∷ ts) zero column = refl
kind_is (t ∷ ts) (suc table) column = kind_is ts table column

kinds_are : (ts : List TableShape) (table : ℕ) → column_kinds ts table ≡ kinds_in (schema_of ts) table
unfolding kinds_in
kinds_are [] table = refl
kinds_are (t ∷ ts) zero = refl
kinds_are (t ∷ ts) (suc table) = kinds_are ts table

count_is : (ts : List TableShape) → length ts ≡ length (schema_of ts)
count_is [] = refl
count_is (t ∷ ts) = ap suc (count_is ts)

module _ (ts us : List TableShape) (same : HaveSameSchema ts us) where
  kind_same : (table column : ℕ) → column_kind ts table column ≡ column_kind us table column
  kind_same table column = kind_is ts table column ∙ ap (λ s. kind_in s table column) same ∙ sym (kind_is us table column)

  kinds_same : (table : ℕ) → column_kinds ts table ≡ column_kinds us table
  kinds_same table = kinds_are ts table ∙ ap (λ s. kinds_in s table) same ∙ sym (kinds_are us table)

  there : (table : ℕ) → table < length ts → table < length us
  there table h = subst (λ n. table < n) (count_is ts ∙ ap length same ∙ sym (count_is us)) h

  has_kind : (table column : ℕ) (kind : ColType) → column_kind ts table column ≡ Some kind → column_kind us table column ≡ Some kind
  has_kind table column kind h = sym (kind_same table column) ∙ h

  -- ---- expressions

  int_fits : (kinds : List ColType) (e : IntSyntax) → IntFits ts kinds e → IntFits us kinds e
  int_fits kinds (number z) h = tt
  int_fits kinds (variable place) h = h
  int_fits kinds (binary op a b) h = (int_fits kinds a h.0, int_fits kinds b h.1)
  int_fits kinds (count_rows table part) h = (there table h.0, int_fits kinds part h.1)
  int_fits kinds (sum_column table part column) h = (int_fits kinds part h.0, has_kind table column types.Int h.1)

  bool_fits : (kinds : List ColType) (e : BoolSyntax) → BoolFits ts kinds e → BoolFits us kinds e
  bool_fits kinds (compare_ints test a b) h = (int_fits kinds a h.0, int_fits kinds b h.1)
  bool_fits kinds (compare_texts test a b) h = h
  bool_fits kinds (both a b) h = (bool_fits kinds a h.0, bool_fits kinds b h.1)
  bool_fits kinds (either a b) h = (bool_fits kinds a h.0, bool_fits kinds b h.1)
  bool_fits kinds (negated a) h = bool_fits kinds a h
  bool_fits kinds (row_exists table key) h = (there table h.0, int_fits kinds key h.1)

  value_fits : (kinds : List ColType) (e : ValueSyntax) → ValueFits ts kinds e → ValueFits us kinds e
  value_fits kinds (int_value e) h = int_fits kinds e h
  value_fits kinds (text_value e) h = h

  values_fit : (kinds : List ColType) (es : List ValueSyntax) → AllByRecursion (ValueFits ts kinds) es → AllByRecursion (ValueFits us kinds) es
  values_fit kinds [] h = tt
  values_fit kinds (e ∷ es) h = (value_fits kinds e h.0, values_fit kinds es h.1)

  -- ---- statements

  scope_same : (kinds : List ColType) (s : StmtSyntax) → scope_after ts kinds s ≡ scope_after us kinds s
  scope_same kinds (assign place value) = refl
  scope_same kinds (get place table key column) = ap (λ o. declared kinds place (unwrap_or o types.Int)) (kind_same table column)
  scope_same kinds (put table key column value) = refl
  scope_same kinds (insert_row table key values) = refl
  scope_same kinds (delete_row table key) = refl
  scope_same kinds (choose test first second) = refl
  scope_same kinds (for_numbers low high body) = refl
  scope_same kinds (for_keys table part body) = refl
  scope_same kinds (abort code) = refl
  scope_same kinds (reply values) = refl

  mutual
    stmt_fits : (kinds : List ColType) (s : StmtSyntax) → StmtFits ts kinds s → StmtFits us kinds s
    stmt_fits kinds (assign place value) h = (value_fits kinds value h.0, h.1)
    stmt_fits kinds (get place table key column) h = (int_fits kinds key h.0, (h.1.0, has_kind table column h.1.0 h.1.1, h.1.2))
    stmt_fits kinds (put table key column value) h = (int_fits kinds key h.0, value_fits kinds value h.1, has_kind table column (kind_of value) h.2)
    stmt_fits kinds (insert_row table key values) h = (int_fits kinds key h.0, (values_fit kinds values h.1.0, sym (kinds_same table) ∙ h.1.1))
    stmt_fits kinds (delete_row table key) h = (there table h.0, int_fits kinds key h.1)
    stmt_fits kinds (choose test first second) h = (bool_fits kinds test h.0, block_fits kinds first h.1, block_fits kinds second h.2)
    stmt_fits kinds (for_numbers low high body) h = (int_fits kinds low h.0, int_fits kinds high h.1, block_fits (in_loop kinds) body h.2)
    stmt_fits kinds (for_keys table part body) h = (there table h.0, int_fits kinds part h.1, block_fits (in_loop kinds) body h.2)
    stmt_fits kinds (abort code) h = h
    stmt_fits kinds (reply values) h = values_fit kinds values h

    block_fits : (kinds : List ColType) (b : BlockSyntax) → BlockFits ts kinds b → BlockFits us kinds b
    block_fits kinds no_statements h = tt
    block_fits kinds (followed s rest) h = (stmt_fits kinds s h.0, subst (λ k. BlockFits us k rest) (scope_same kinds s) (block_fits (scope_after ts kinds s) rest h.1))

  -- ---- footprints

  entry_fits : (kinds : List ColType) (e : EntrySyntax) → EntryFits ts kinds e → EntryFits us kinds e
  entry_fits kinds (row_entry right table key) h = (there table h.0, int_fits kinds key h.1, h.2)
  entry_fits kinds (rows_entry right table low high) h = (there table h.0, int_fits kinds low h.1, h.2, int_fits kinds high h.3, h.4)
  entry_fits kinds (part_entry right table part) h = (there table h.0, int_fits kinds part h.1, h.2)
  entry_fits kinds (table_entry right table) h = there table h
  entry_fits kinds (db_entry right) h = tt

  entries_fit : (kinds : List ColType) (es : List EntrySyntax) → AllByRecursion (EntryFits ts kinds) es → AllByRecursion (EntryFits us kinds) es
  entries_fit kinds [] h = tt
  entries_fit kinds (e ∷ es) h = (entry_fits kinds e h.0, entries_fit kinds es h.1)

  footprint_fits : (kinds : List ColType) (f : FootprintSyntax) → FootprintFits ts kinds f → FootprintFits us kinds f
  footprint_fits kinds (declared_by entries) h = entries_fit kinds entries h
  footprint_fits kinds found_by_recon h = tt

  pub proc_fits : (p : ProcSyntax) → ProcFits ts p → ProcFits us p
  proc_fits p h = record { footprint = footprint_fits (kinds_of p.params) p.footprint h.footprint; body = block_fits (kinds_of p.params) (block_of p.body) h.body }
