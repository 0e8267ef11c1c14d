-- Claimed: what contracts promise to a reader rests on these words.
-- When syntax fits a scope and a catalogue: each variable, table and column is there, and has the type that is asked
-- for.
use Rattle.std.specs.Prelude.{◌≡◌, ◌⊎◌, ◌<◌, ◌≤◌, ℕ, List, [], ◌∷◌, ◌++◌, length, map, Option, Some, option_map, option_and_then, unwrap_or, slice_get, ⊤, ◌==◌, if◌then◌else◌}
use Rattle.std.specs.List.{AllByRecursion}
use Rattle.values.specs.declared.value.ColType.{ColType}
use Rattle.values.specs.declared.value.ColType.TheVariants as types
use Rattle.catalogue.specs.Shapes.{TableShape}
use Rattle.proclang_types.specs.Syntax.{IntSyntax, number, variable, binary, count_rows, sum_column, TextSyntax, literal, text_variable, BoolSyntax, compare_ints, compare_texts, both, either, negated, row_exists, ValueSyntax, int_value, text_value, ExprSyntax, int, text, bool, StmtSyntax, assign, get, put, insert_row, delete_row, choose, for_numbers, for_keys, abort, reply, BlockSyntax, no_statements, followed, block_of, EntrySyntax, row_entry, rows_entry, part_entry, table_entry, db_entry, FootprintSyntax, declared_by, found_by_recon, ParamShape, ProcSyntax}

-- the type of a column of a table
abbrev pub column_kind : List TableShape → ℕ → ℕ → Option ColType
column_kind tables table column =
    option_and_then (λ t. option_map (λ c. c.kind) (slice_get t.columns column)) (slice_get tables table)

-- the types of the columns of a table
abbrev pub column_kinds : List TableShape → ℕ → Option (List ColType)
column_kinds tables table = option_map (λ t. map (λ c. c.kind) t.columns) (slice_get tables table)

-- ---- expressions, where these tables and variables of these types are seen

-- a number expression: its variables are numbers, and its tables and columns are there
abbrev pub IntFits : List TableShape → List ColType → IntSyntax → Type 0
IntFits tables kinds (number z) = ⊤
IntFits tables kinds (variable place) = slice_get kinds place ≡ Some types.Int
IntFits tables kinds (binary op a b) = IntFits tables kinds a × IntFits tables kinds b
IntFits tables kinds (count_rows table part) = (table < length tables) × IntFits tables kinds part
IntFits tables kinds (sum_column table part column) =
    IntFits tables kinds part × (column_kind tables table column ≡ Some types.Int)

-- a text expression: its variable is a text
abbrev pub TextFits : List ColType → TextSyntax → Type 0
TextFits kinds (literal s) = ⊤
TextFits kinds (text_variable place) = slice_get kinds place ≡ Some types.Text

-- a test: its operands fit
abbrev pub BoolFits : List TableShape → List ColType → BoolSyntax → Type 0
BoolFits tables kinds (compare_ints test a b) = IntFits tables kinds a × IntFits tables kinds b
BoolFits tables kinds (compare_texts test a b) = TextFits kinds a × TextFits kinds b
BoolFits tables kinds (both a b) = BoolFits tables kinds a × BoolFits tables kinds b
BoolFits tables kinds (either a b) = BoolFits tables kinds a × BoolFits tables kinds b
BoolFits tables kinds (negated a) = BoolFits tables kinds a
BoolFits tables kinds (row_exists table key) = (table < length tables) × IntFits tables kinds key

-- an expression of a value fits
abbrev pub ValueFits : List TableShape → List ColType → ValueSyntax → Type 0
ValueFits tables kinds (int_value e) = IntFits tables kinds e
ValueFits tables kinds (text_value e) = TextFits kinds e

-- an expression of any type fits
abbrev pub ExprFits : List TableShape → List ColType → ExprSyntax → Type 0
ExprFits tables kinds (int e) = IntFits tables kinds e
ExprFits tables kinds (text e) = TextFits kinds e
ExprFits tables kinds (bool e) = BoolFits tables kinds e

-- the type of what an expression gives
abbrev pub kind_of : ValueSyntax → ColType
kind_of (int_value e) = types.Int
kind_of (text_value e) = types.Text

-- ---- statements

-- a place that takes a value of that type: after all variables that are seen, or at one of that type
abbrev pub Takes : List ColType → ℕ → ColType → Type 0
Takes kinds place kind = (place ≡ length kinds) ⊎ (slice_get kinds place ≡ Some kind)

-- the types of the variables that are seen once a variable has got a value
abbrev pub declared : List ColType → ℕ → ColType → List ColType
declared kinds place kind = if place == length kinds then kinds ++ kind ∷ [] else kinds

-- rule: variable.declared
-- the types of the variables that are seen after a statement
abbrev pub scope_after : List TableShape → List ColType → StmtSyntax → List ColType
scope_after tables kinds (assign place value) = declared kinds place (kind_of value)
scope_after tables kinds (get place table key column) =
    declared kinds place (unwrap_or (column_kind tables table column) types.Int)
scope_after tables kinds s = kinds

-- one value for each column of the table, of the column's type
abbrev pub RowFits : List TableShape → List ColType → ℕ → List ValueSyntax → Type 0
RowFits tables kinds table values =
    AllByRecursion (ValueFits tables kinds) values × (column_kinds tables table ≡ Some (map kind_of values))

-- the types of the variables that are seen in the block of a loop, whose variable comes after the others
abbrev pub in_loop : List ColType → List ColType
in_loop kinds = kinds ++ types.Int ∷ []

abbrev mutual
  -- a statement fits: its expressions do, and what it changes has their types
  pub StmtFits : List TableShape → List ColType → StmtSyntax → Type 0
  StmtFits tables kinds (assign place value) = ValueFits tables kinds value × Takes kinds place (kind_of value)
  StmtFits tables kinds (get place table key column) =
      IntFits tables kinds key
      × ((kind : ColType) × (column_kind tables table column ≡ Some kind) × Takes kinds place kind)
  StmtFits tables kinds (put table key column value) =
      IntFits tables kinds key × ValueFits tables kinds value × (column_kind tables table column ≡ Some (kind_of value))
  StmtFits tables kinds (insert_row table key values) = IntFits tables kinds key × RowFits tables kinds table values
  StmtFits tables kinds (delete_row table key) = (table < length tables) × IntFits tables kinds key
  StmtFits tables kinds (choose test first second) =
      BoolFits tables kinds test × BlockFits tables kinds first × BlockFits tables kinds second
  StmtFits tables kinds (for_numbers low high body) =
      IntFits tables kinds low × IntFits tables kinds high × BlockFits tables (in_loop kinds) body
  StmtFits tables kinds (for_keys table part body) =
      (table < length tables) × IntFits tables kinds part × BlockFits tables (in_loop kinds) body
  StmtFits tables kinds (abort code) = (100 ≤ code) × (code ≤ 65535)
  StmtFits tables kinds (reply values) = AllByRecursion (ValueFits tables kinds) values

  -- each statement fits what is seen after those before it
  pub BlockFits : List TableShape → List ColType → BlockSyntax → Type 0
  BlockFits tables kinds no_statements = ⊤
  BlockFits tables kinds (followed s rest) =
      StmtFits tables kinds s × BlockFits tables (scope_after tables kinds s) rest

-- ---- procedures

-- rule: footprint.parameters
-- an expression that asks for no rows: its value depends on the variables alone
abbrev pub AsksNoRows : IntSyntax → Type 0
AsksNoRows (number z) = ⊤
AsksNoRows (variable place) = ⊤
AsksNoRows (binary op a b) = AsksNoRows a × AsksNoRows b
AsksNoRows (count_rows table part) = ⊥
AsksNoRows (sum_column table part column) = ⊥

-- an entry fits: its table is there, and its expressions ask for no rows
abbrev pub EntryFits : List TableShape → List ColType → EntrySyntax → Type 0
EntryFits tables kinds (row_entry right table key) = (table < length tables) × IntFits tables kinds key × AsksNoRows key
EntryFits tables kinds (rows_entry right table low high) =
    (table < length tables) × IntFits tables kinds low × AsksNoRows low × IntFits tables kinds high × AsksNoRows high
EntryFits tables kinds (part_entry right table part) =
    (table < length tables) × IntFits tables kinds part × AsksNoRows part
EntryFits tables kinds (table_entry right table) = table < length tables
EntryFits tables kinds (db_entry right) = ⊤

-- each entry of a declared footprint fits
abbrev pub FootprintFits : List TableShape → List ColType → FootprintSyntax → Type 0
FootprintFits tables kinds (declared_by entries) = AllByRecursion (EntryFits tables kinds) entries
FootprintFits tables kinds found_by_recon = ⊤

-- the types of parameters, in order
abbrev pub kinds_of : List ParamShape → List ColType
kinds_of params = map (λ p. p.kind) params

-- the footprint and the body fit the parameters: each variable, table and column is there, and has the type that is
-- asked of it
pub record ProcFits (tables : List TableShape) (proc : ProcSyntax) : Type 0 where
  pub footprint : FootprintFits tables (kinds_of proc.params) proc.footprint
  pub body : BlockFits tables (kinds_of proc.params) (block_of proc.body)
