-- Claimed: what contracts promise to a reader rests on these words.
-- Reading statements and blocks into typed syntax, with the first fault that is met and its path.
use Rattle.std.specs.Prelude.{ℕ, zero, suc, ℤ, pos, negsuc, ◌&&◌, ◌==◌, nat_le, List, [], ◌∷◌, ◌++◌, length, Result, Ok, if◌then◌else◌}
use Rattle.serde_json.specs.Data.{Data}
use Rattle.documents.specs.Json.{elements}
use Rattle.documents.specs.Reading.{◌>>=◌, formed, rule}
use Rattle.catalogue.specs.Shapes.{TableShape}
use Rattle.proclang_types.specs.Syntax.{StmtSyntax, assign, get, put, insert_row, delete_row, choose, for_numbers, for_keys, abort, reply, block_of}
use Rattle.proclang_types.specs.Typing.{kind_of}
use Rattle.proclang_expressions.specs.declared.fault.FaultKind.TheVariants.{Shape, AbortCode, Limit}
use Rattle.proclang_expressions.specs.declared.fault.ProcFault.{ProcFault}
use Rattle.proclang_expressions.specs.declared.fault.ProcFault.TheVariants.{At}
use Rattle.proclang_expressions.specs.Faults.{refuse}
use Rattle.proclang_expressions.specs.Seen.{Seen, seen_in_loop}
use Rattle.proclang_expressions.specs.Walk.{each_from, at_most}
use Rattle.proclang_expressions.specs.Lookups.{table_called, column_called}
use Rattle.proclang_expressions.specs.Targets.{target_at, bound, loop_name_at}
use Rattle.proclang_expressions.specs.Expressions.{as_int, as_bool, as_value, statement_expr}
use Rattle.proclang_forms.specs.StmtForms.{LetParts, GetParts, PutParts, InsertParts, DeleteParts, IfParts, ForParts, EachParts, StatementForm, let_parts, get_parts, put_parts, insert_parts, delete_parts, if_parts, for_parts, each_parts, abort_code, reply_values, statement_form}
use Rattle.proclang_expressions.specs.Values.{of_type, exprs_at, row_values_at, kinds_in, values_at}

-- ---- statements: what is read, and the variables that are seen after it

-- a `let`
unfoldable pub let_at : List TableShape → List ℕ → List Seen → LetParts → Result (StmtSyntax × List Seen) ProcFault
let_at tables path scope form = do
  target ← target_at (path ++ 1 ∷ []) scope form.variable
  e ← statement_expr tables (path ++ 2 ∷ []) scope form.value
  value ← as_value (path ++ 2 ∷ []) e
  variable ← bound (path ++ 2 ∷ []) scope form.variable (kind_of value) target
  Ok (assign variable.0 value, variable.1)

-- a `get`
unfoldable pub get_at : List TableShape → List ℕ → List Seen → GetParts → Result (StmtSyntax × List Seen) ProcFault
get_at tables path scope form = do
  target ← target_at (path ++ 1 ∷ []) scope form.variable
  table ← table_called (path ++ 2 ∷ []) tables form.table
  e ← statement_expr tables (path ++ 3 ∷ []) scope form.key
  column ← column_called (path ++ 4 ∷ []) tables table form.column
  key ← as_int (path ++ 3 ∷ []) e
  variable ← bound (path ++ 4 ∷ []) scope form.variable column.1 target
  Ok (get variable.0 table key column.0, variable.1)

-- a `put`
unfoldable pub put_at : List TableShape → List ℕ → List Seen → PutParts → Result StmtSyntax ProcFault
put_at tables path scope form = do
  table ← table_called (path ++ 1 ∷ []) tables form.table
  k ← statement_expr tables (path ++ 2 ∷ []) scope form.key
  column ← column_called (path ++ 3 ∷ []) tables table form.column
  e ← statement_expr tables (path ++ 4 ∷ []) scope form.value
  key ← as_int (path ++ 2 ∷ []) k
  v ← as_value (path ++ 4 ∷ []) e
  value ← of_type (path ++ 4 ∷ []) column.1 v
  Ok (put table key column.0 value)

-- the key and as many values as the table has columns, and then their types
unfoldable pub insert_at : List TableShape → List ℕ → List Seen → InsertParts → Result StmtSyntax ProcFault
insert_at tables path scope form = do
  table ← table_called (path ++ 1 ∷ []) tables form.table
  k ← statement_expr tables (path ++ 2 ∷ []) scope form.key
  _ ← rule (length form.values == length (kinds_in tables table)) (At Shape (path ++ 3 ∷ []))
  es ← exprs_at tables (path ++ 3 ∷ []) 0 scope form.values
  key ← as_int (path ++ 2 ∷ []) k
  values ← row_values_at (path ++ 3 ∷ []) (kinds_in tables table) es
  Ok (insert_row table key values)

-- a `delete`
unfoldable pub delete_at : List TableShape → List ℕ → List Seen → DeleteParts → Result StmtSyntax ProcFault
delete_at tables path scope form = do
  table ← table_called (path ++ 1 ∷ []) tables form.table
  e ← statement_expr tables (path ++ 2 ∷ []) scope form.key
  key ← as_int (path ++ 2 ∷ []) e
  Ok (delete_row table key)

-- an `abort`, whose code is 100 to 65535
unfoldable pub abort_at : List ℕ → ℤ → Result StmtSyntax ProcFault
abort_at path (pos n) = if nat_le 100 n && nat_le n 65535 then Ok (abort n) else refuse AbortCode (path ++ 1 ∷ [])
abort_at path (negsuc n) = refuse AbortCode (path ++ 1 ∷ [])

-- a `reply` of at most 64 values
unfoldable pub reply_at : List TableShape → List ℕ → List Seen → List Data → Result StmtSyntax ProcFault
reply_at tables path scope ds = do
  _ ← at_most path 64 ds
  es ← exprs_at tables path 1 scope ds
  vs ← values_at path es
  Ok (reply vs)

-- ---- statements with blocks

-- how blocks are read
abbrev pub BlockReader : Type 0
BlockReader = List ℕ → List Seen → Data → Result (List StmtSyntax) ProcFault

-- the condition and both blocks, and then the condition's type
unfoldable pub if_at : List TableShape → BlockReader → List ℕ → List Seen → IfParts → Result StmtSyntax ProcFault
if_at tables block path scope form = do
  e ← statement_expr tables (path ++ 1 ∷ []) scope form.test
  first ← block (path ++ 2 ∷ []) scope form.first
  second ← block (path ++ 3 ∷ []) scope form.second
  test ← as_bool (path ++ 1 ∷ []) e
  Ok (choose test (block_of first) (block_of second))

-- the name, the bounds and the block, and then the bounds' types
unfoldable pub for_at : List TableShape → BlockReader → List ℕ → List Seen → ForParts → Result StmtSyntax ProcFault
for_at tables block path scope form = do
  _ ← loop_name_at (path ++ 1 ∷ []) scope form.variable
  l ← statement_expr tables (path ++ 2 ∷ []) scope form.low
  h ← statement_expr tables (path ++ 3 ∷ []) scope form.high
  body ← block (path ++ 4 ∷ []) (seen_in_loop scope form.variable) form.body
  low ← as_int (path ++ 2 ∷ []) l
  high ← as_int (path ++ 3 ∷ []) h
  Ok (for_numbers low high (block_of body))

-- the name, the table, the partition and the block, and then the partition's type
unfoldable pub each_loop_at : List TableShape → BlockReader → List ℕ → List Seen → EachParts
    → Result StmtSyntax ProcFault
each_loop_at tables block path scope form = do
  _ ← loop_name_at (path ++ 1 ∷ []) scope form.variable
  table ← table_called (path ++ 2 ∷ []) tables form.table
  e ← statement_expr tables (path ++ 3 ∷ []) scope form.number
  body ← block (path ++ 4 ∷ []) (seen_in_loop scope form.variable) form.body
  number ← as_int (path ++ 3 ∷ []) e
  Ok (for_keys table number (block_of body))

-- a statement that declares nothing
abbrev pub in_scope : List Seen → Result StmtSyntax ProcFault → Result (StmtSyntax × List Seen) ProcFault
in_scope scope read = read >>= λ s. Ok (s, scope)

-- a statement of that form
unfoldable pub form_at : List TableShape → BlockReader → List ℕ → List Seen → StatementForm
    → Result (StmtSyntax × List Seen) ProcFault
form_at tables block path scope (let_parts form) = let_at tables path scope form
form_at tables block path scope (get_parts form) = get_at tables path scope form
form_at tables block path scope (put_parts form) = in_scope scope (put_at tables path scope form)
form_at tables block path scope (insert_parts form) = in_scope scope (insert_at tables path scope form)
form_at tables block path scope (delete_parts form) = in_scope scope (delete_at tables path scope form)
form_at tables block path scope (if_parts form) = in_scope scope (if_at tables block path scope form)
form_at tables block path scope (for_parts form) = in_scope scope (for_at tables block path scope form)
form_at tables block path scope (each_parts form) = in_scope scope (each_loop_at tables block path scope form)
form_at tables block path scope (abort_code z) = in_scope scope (abort_at path z)
form_at tables block path scope (reply_values ds) = in_scope scope (reply_at tables path scope ds)

-- a statement read from left to right: its typed syntax, or its first fault and the path to it
abbrev pub statement_at : List TableShape → BlockReader → List ℕ → List Seen → Data
    → Result (StmtSyntax × List Seen) ProcFault
statement_at tables block path scope d = do
  form ← formed (At Shape path) (statement_form d)
  form_at tables block path scope form

-- ---- blocks

-- a statement, after those before it and with the variables that are seen after them
abbrev pub next_statement : List TableShape → BlockReader → List ℕ → List StmtSyntax × List Seen → Data
    → Result (List StmtSyntax × List Seen) ProcFault
next_statement tables block path before d = do
  s ← statement_at tables block path before.1 d
  Ok (before.0 ++ s.0 ∷ [], s.1)

-- a block, where that many levels may still nest
unfoldable pub block_at : List TableShape → ℕ → List ℕ → List Seen → Data → Result (List StmtSyntax) ProcFault
block_at tables zero path scope d = do
  _ ← formed (At Shape path) (elements d)
  refuse Limit path
block_at tables (suc room) path scope d = do
  ds ← formed (At Shape path) (elements d)
  _ ← at_most path 1024 ds
  all ← each_from (next_statement tables (block_at tables room)) path 0 ([], scope) ds
  Ok all.0
