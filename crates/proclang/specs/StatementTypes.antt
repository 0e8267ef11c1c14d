-- Of the code: invariants and steps; no promise rests on these words.
-- The types of a statement's parts once they are read: the statement, or the fault of the first part of a wrong type.
use Rattle.std.specs.Prelude.{ℕ, List, Result, Ok}
use Rattle.documents.specs.Reading.{◌>>=◌}
use Rattle.values.specs.declared.value.ColType.{ColType}
use Rattle.proclang_types.specs.Syntax.{ExprSyntax, StmtSyntax, put, insert_row, choose, for_numbers, for_keys, block_of}
use Rattle.proclang_expressions.specs.declared.fault.ProcFault.{ProcFault}
use Rattle.proclang_expressions.specs.Expressions.{as_int, as_bool, as_value}
use Rattle.proclang_expressions.specs.Values.{of_type, row_values_at}

-- the test is a Bool
abbrev pub typed_if : List ℕ → ExprSyntax → List StmtSyntax → List StmtSyntax → Result StmtSyntax ProcFault
typed_if path e first second = do
  test ← as_bool path e
  Ok (choose test (block_of first) (block_of second))

-- both bounds are Ints
abbrev pub typed_for : List ℕ → ExprSyntax → List ℕ → ExprSyntax → List StmtSyntax → Result StmtSyntax ProcFault
typed_for low_path l high_path h body = do
  low ← as_int low_path l
  high ← as_int high_path h
  Ok (for_numbers low high (block_of body))

-- the number of the partition is an Int
abbrev pub typed_each : ℕ → List ℕ → ExprSyntax → List StmtSyntax → Result StmtSyntax ProcFault
typed_each table path e body = do
  number ← as_int path e
  Ok (for_keys table number (block_of body))

-- the key is an Int, and the value of the column's type
abbrev pub typed_put : ℕ → List ℕ → ExprSyntax → ℕ → ColType → List ℕ → ExprSyntax → Result StmtSyntax ProcFault
typed_put table key_path k column kind value_path e = do
  key ← as_int key_path k
  v ← as_value value_path e
  value ← of_type value_path kind v
  Ok (put table key column value)

-- the key is an Int, and each value of its column's type
abbrev pub typed_insert : ℕ → List ColType → List ℕ → ExprSyntax → List ℕ → List ExprSyntax
    → Result StmtSyntax ProcFault
typed_insert table kinds key_path k path es = do
  key ← as_int key_path k
  values ← row_values_at path kinds es
  Ok (insert_row table key values)
