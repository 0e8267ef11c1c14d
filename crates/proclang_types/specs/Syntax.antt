-- Claimed: what contracts promise to a reader rests on these words.
-- Typed syntax without where it lies in memory. Variables, tables and columns are places.
use Rattle.std.specs.Prelude.{ℕ, ℤ, Bool, true, false, List, [], ◌∷◌}
use Rattle.values.specs.declared.value.ColType.{ColType}
use Rattle.proclang_types.specs.declared.right.Right.{Right}
use Rattle.proclang_types.specs.declared.operator.IntOperator.{IntOperator}
use Rattle.proclang_types.specs.declared.operator.Comparison.{Comparison}
use Rattle.proclang_types.specs.declared.operator.Equality.{Equality}

-- an expression that gives a number; a variable is its place in the order of declarations
pub data IntSyntax : Type 0 where
  number : ℤ → IntSyntax
  variable : ℕ → IntSyntax
  binary : IntOperator → IntSyntax → IntSyntax → IntSyntax
  -- the number of rows of a partition: table, partition
  count_rows : ℕ → IntSyntax → IntSyntax
  -- the total of a column over the rows of a partition: table, partition, column
  sum_column : ℕ → IntSyntax → ℕ → IntSyntax

-- an expression that gives a text
pub data TextSyntax : Type 0 where
  literal : List ℕ → TextSyntax
  text_variable : ℕ → TextSyntax

-- an expression that gives true or false
pub data BoolSyntax : Type 0 where
  compare_ints : Comparison → IntSyntax → IntSyntax → BoolSyntax
  compare_texts : Equality → TextSyntax → TextSyntax → BoolSyntax
  both either : BoolSyntax → BoolSyntax → BoolSyntax
  negated : BoolSyntax → BoolSyntax
  -- whether a row is there: table, key
  row_exists : ℕ → IntSyntax → BoolSyntax

-- an expression that gives a number or a text
pub data ValueSyntax : Type 0 where
  int_value : IntSyntax → ValueSyntax
  text_value : TextSyntax → ValueSyntax

-- an expression of any type
pub data ExprSyntax : Type 0 where
  int : IntSyntax → ExprSyntax
  text : TextSyntax → ExprSyntax
  bool : BoolSyntax → ExprSyntax

mutual
  -- a statement
  pub data StmtSyntax : Type 0 where
    -- a variable gets a value
    assign : ℕ → ValueSyntax → StmtSyntax
    -- a variable gets a column of the row with a key: variable, table, key, column
    get : ℕ → ℕ → IntSyntax → ℕ → StmtSyntax
    -- a column of the row with a key gets a value: table, key, column, value
    put : ℕ → IntSyntax → ℕ → ValueSyntax → StmtSyntax
    -- a new row: table, key, values
    insert_row : ℕ → IntSyntax → List ValueSyntax → StmtSyntax
    -- a row is no more: table, key
    delete_row : ℕ → IntSyntax → StmtSyntax
    choose : BoolSyntax → BlockSyntax → BlockSyntax → StmtSyntax
    -- a block for each number from one to another, which is the variable after those that are seen
    for_numbers : IntSyntax → IntSyntax → BlockSyntax → StmtSyntax
    -- a block for each key of a partition, which is the variable after those that are seen: table, partition, block
    for_keys : ℕ → IntSyntax → BlockSyntax → StmtSyntax
    abort : ℕ → StmtSyntax
    reply : List ValueSyntax → StmtSyntax

  -- the statements of a block, in order
  pub data BlockSyntax : Type 0 where
    no_statements : BlockSyntax
    followed : StmtSyntax → BlockSyntax → BlockSyntax

-- the block of these statements
abbrev pub block_of : List StmtSyntax → BlockSyntax
block_of [] = no_statements
block_of (s ∷ ss) = followed s (block_of ss)

-- an entry of a declared footprint
pub data EntrySyntax : Type 0 where
  -- right, table, key
  row_entry : Right → ℕ → IntSyntax → EntrySyntax
  -- right, table, least key, greatest key
  rows_entry : Right → ℕ → IntSyntax → IntSyntax → EntrySyntax
  -- right, table, number of the partition
  part_entry : Right → ℕ → IntSyntax → EntrySyntax
  table_entry : Right → ℕ → EntrySyntax
  -- the whole database
  db_entry : Right → EntrySyntax

-- how the footprint of a procedure's calls is known (Calvin, 2012: that of a dependent transaction is found)
pub data FootprintSyntax : Type 0 where
  -- these entries declare it
  declared_by : List EntrySyntax → FootprintSyntax
  -- reconnaissance finds it
  found_by_recon : FootprintSyntax

-- a parameter's name and type
pub record ParamShape : Type 0 where
  pub name : List ℕ
  pub kind : ColType

-- a procedure over the tables of a catalogue
pub record ProcSyntax : Type 0 where
  pub name : List ℕ
  pub params : List ParamShape
  pub footprint : FootprintSyntax
  pub body : List StmtSyntax

-- reconnaissance finds the footprint
abbrev pub is_recon : FootprintSyntax → Bool
is_recon (declared_by entries) = false
is_recon found_by_recon = true

-- the entries that declare the footprint, of which there are none where reconnaissance finds it
abbrev pub declared_entries : FootprintSyntax → List EntrySyntax
declared_entries (declared_by entries) = entries
declared_entries found_by_recon = []
