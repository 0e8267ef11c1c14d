-- Claimed: what contracts promise to a reader rests on these words.
-- Reading expressions into typed syntax, with the first fault that is met and its path.
use Rattle.std.specs.Prelude.{ℕ, zero, suc, nat_le, List, [], ◌∷◌, ◌++◌, length, Option, Some, None, Result, Ok}
use Rattle.serde_json.specs.Data.{Data}
use Rattle.documents.specs.Reading.{◌>>=◌, formed, rule}
use Rattle.values.specs.declared.value.ColType.{ColType}
use Rattle.values.specs.declared.value.ColType.TheVariants as types
use Rattle.catalogue.specs.Shapes.{TableShape}
use Rattle.proclang_types.specs.declared.operator.Comparison.{Comparison}
use Rattle.proclang_types.specs.declared.operator.Comparison.TheVariants as comparisons
use Rattle.proclang_types.specs.declared.operator.IntOperator.{IntOperator}
use Rattle.proclang_types.specs.declared.operator.Equality.{Equality}
use Rattle.proclang_types.specs.declared.operator.Equality.TheVariants as equalities
use Rattle.proclang_types.specs.Syntax.{IntSyntax, number, variable, binary, count_rows, sum_column, TextSyntax, literal, text_variable, BoolSyntax, compare_ints, compare_texts, both, either, negated, row_exists, ExprSyntax, int, text, bool, ValueSyntax, int_value, text_value}
use Rattle.proclang_expressions.specs.declared.fault.FaultKind.TheVariants.{Shape, UnknownName, TypeMismatch, Limit}
use Rattle.proclang_expressions.specs.declared.fault.ProcFault.{ProcFault}
use Rattle.proclang_expressions.specs.declared.fault.ProcFault.TheVariants.{At}
use Rattle.proclang_forms.specs.declared.operator.Operator.{Operator}
use Rattle.proclang_forms.specs.declared.operator.Operator.TheVariants.{Arithmetic, Less, AtMost, Same, And, Or}
use Rattle.proclang_expressions.specs.declared.expr_context.ExprContext.{ExprContext}
use Rattle.proclang_forms.specs.declared.expr_forms.Section.{Section}
use Rattle.proclang_forms.specs.declared.expr_forms.Section.TheVariants as sections
use Rattle.proclang_expressions.specs.declared.scope.Found.{Found}
use Rattle.proclang_expressions.specs.Faults.{refuse}
use Rattle.proclang_expressions.specs.Seen.{Seen, found_in}
use Rattle.proclang_expressions.specs.Lookups.{same_type, table_called, column_called}
use Rattle.proclang_forms.specs.ExprForms.{Form, number_form, literal_form, variable_form, not_form, binary_form, exists_form, count_form, sum_form, form_in}

-- the last depth that blocks and expressions may nest to
abbrev pub deepest : ℕ
deepest = 24

-- the variable at that place
abbrev pub variable_syntax : ColType → ℕ → ExprSyntax
variable_syntax types.Int place = int (variable place)
variable_syntax types.Text place = text (text_variable place)

-- the variable of a name, or the fault that there is none
abbrev pub named : List ℕ → Option Found → Result ExprSyntax ProcFault
named path None = refuse UnknownName path
named path (Some v) = Ok (variable_syntax v.kind v.place)

-- a text of no more than 64 bytes
abbrev pub literal_at : List ℕ → List ℕ → Result ExprSyntax ProcFault
literal_at path s = rule (nat_le (length s) 64) (At Limit path) >>= λ _. Ok (text (literal s))

-- ---- operands of the type that is asked for

-- the expression, where it gives a number
abbrev pub as_int : List ℕ → ExprSyntax → Result IntSyntax ProcFault
as_int path (int e) = Ok e
as_int path e = refuse TypeMismatch path

-- the expression, where it gives a text
abbrev pub as_text : List ℕ → ExprSyntax → Result TextSyntax ProcFault
as_text path (text e) = Ok e
as_text path e = refuse TypeMismatch path

-- the expression, where it gives true or false
abbrev pub as_bool : List ℕ → ExprSyntax → Result BoolSyntax ProcFault
as_bool path (bool e) = Ok e
as_bool path e = refuse TypeMismatch path

-- the expression, where it gives a number or a text
abbrev pub as_value : List ℕ → ExprSyntax → Result ValueSyntax ProcFault
as_value path (int e) = Ok (int_value e)
as_value path (text e) = Ok (text_value e)
as_value path (bool e) = refuse TypeMismatch path

-- an operator on two numbers
unfoldable pub two_ints : (IntSyntax → IntSyntax → ExprSyntax) → List ℕ → ExprSyntax → List ℕ → ExprSyntax
    → Result ExprSyntax ProcFault
two_ints make p a q b = do
  x ← as_int p a
  y ← as_int q b
  Ok (make x y)

-- an operator on two tests
unfoldable pub two_bools : (BoolSyntax → BoolSyntax → ExprSyntax) → List ℕ → ExprSyntax → List ℕ → ExprSyntax
    → Result ExprSyntax ProcFault
two_bools make p a q b = do
  x ← as_bool p a
  y ← as_bool q b
  Ok (make x y)

-- the comparison of two Ints that an equality is
abbrev pub of_ints : Equality → Comparison
of_ints equalities.Equal = comparisons.Equal
of_ints equalities.Unequal = comparisons.Unequal

-- two Ints, or two Texts
unfoldable pub two_alike : Equality → List ℕ → ExprSyntax → List ℕ → ExprSyntax → Result ExprSyntax ProcFault
two_alike test p (int x) q b = as_int q b >>= λ y. Ok (bool (compare_ints (of_ints test) x y))
two_alike test p (text x) q b = as_text q b >>= λ y. Ok (bool (compare_texts test x y))
two_alike test p (bool x) q b = refuse TypeMismatch p

-- an arithmetic operation
unfoldable pub calculate : IntOperator → List ℕ → ExprSyntax → List ℕ → ExprSyntax → Result ExprSyntax ProcFault
calculate op = two_ints (λ x y. int (binary op x y))

-- a comparison of two numbers
unfoldable pub comparison_at : Comparison → List ℕ → ExprSyntax → List ℕ → ExprSyntax → Result ExprSyntax ProcFault
comparison_at test = two_ints (λ x y. bool (compare_ints test x y))

-- the operator's operands, each at its path
unfoldable pub combine : Operator → List ℕ → ExprSyntax → List ℕ → ExprSyntax → Result ExprSyntax ProcFault
combine (Arithmetic op) = calculate op
combine Less = comparison_at comparisons.Less
combine AtMost = comparison_at comparisons.AtMost
combine (Same test) = two_alike test
combine And = two_bools (λ x y. bool (both x y))
combine Or = two_bools (λ x y. bool (either x y))

-- ---- expressions

-- how parts are read
abbrev pub PartReader : Type 0
PartReader = List ℕ → List Seen → Data → Result ExprSyntax ProcFault

-- "not" of a part
unfoldable pub not_at : PartReader → List ℕ → List Seen → Data → Result ExprSyntax ProcFault
not_at part path scope a = do
  e ← part (path ++ 1 ∷ []) scope a
  x ← as_bool (path ++ 1 ∷ []) e
  Ok (bool (negated x))

-- the operands, and then their types
unfoldable pub binary_at : PartReader → List ℕ → List Seen → Operator → Data → Data → Result ExprSyntax ProcFault
binary_at part path scope op a b = do
  x ← part (path ++ 1 ∷ []) scope a
  y ← part (path ++ 2 ∷ []) scope b
  combine op (path ++ 1 ∷ []) x (path ++ 2 ∷ []) y

-- whether a row is there
unfoldable pub exists_at : List TableShape → PartReader → List ℕ → List Seen → List ℕ → Data
    → Result ExprSyntax ProcFault
exists_at tables part path scope table key = do
  t ← table_called (path ++ 1 ∷ []) tables table
  e ← part (path ++ 2 ∷ []) scope key
  k ← as_int (path ++ 2 ∷ []) e
  Ok (bool (row_exists t k))

-- the number of rows of a partition
unfoldable pub count_at : List TableShape → PartReader → List ℕ → List Seen → List ℕ → Data
    → Result ExprSyntax ProcFault
count_at tables part path scope table partition = do
  t ← table_called (path ++ 1 ∷ []) tables table
  e ← part (path ++ 2 ∷ []) scope partition
  n ← as_int (path ++ 2 ∷ []) e
  Ok (int (count_rows t n))

-- the total of an int column over the rows of a partition
unfoldable pub sum_at : List TableShape → PartReader → List ℕ → List Seen → List ℕ → Data → List ℕ
    → Result ExprSyntax ProcFault
sum_at tables part path scope table partition column = do
  t ← table_called (path ++ 1 ∷ []) tables table
  e ← part (path ++ 2 ∷ []) scope partition
  c ← column_called (path ++ 3 ∷ []) tables t column
  n ← as_int (path ++ 2 ∷ []) e
  _ ← rule (same_type c.1 types.Int) (At TypeMismatch (path ++ 3 ∷ []))
  Ok (int (sum_column t n c.0))

-- one level
unfoldable pub node_at : List TableShape → PartReader → List ℕ → List Seen → Form → Result ExprSyntax ProcFault
node_at tables part path scope (number_form z) = Ok (int (number z))
node_at tables part path scope (literal_form s) = literal_at path s
node_at tables part path scope (variable_form name) = named path (found_in name scope)
node_at tables part path scope (not_form a) = not_at part path scope a
node_at tables part path scope (binary_form op a b) = binary_at part path scope op a b
node_at tables part path scope (exists_form table key) = exists_at tables part path scope table key
node_at tables part path scope (count_form table partition) = count_at tables part path scope table partition
node_at tables part path scope (sum_form table partition column) = sum_at tables part path scope table partition column

-- an expression in a section of a procedure, where that many levels may still nest
unfoldable pub expr_at : Section → List TableShape → ℕ → List ℕ → List Seen → Data → Result ExprSyntax ProcFault
expr_at section tables zero path scope d = do
  _ ← formed (At Shape path) (form_in section d)
  refuse Limit path
expr_at section tables (suc room) path scope d = do
  form ← formed (At Shape path) (form_in section d)
  node_at tables (expr_at section tables room) path scope form

-- how an expression is read in a context
abbrev pub reader_in : ExprContext → PartReader
reader_in c = expr_at c.section c.catalogue.now c.room

-- an outermost expression in a statement
abbrev pub statement_expr : List TableShape → List ℕ → List Seen → Data → Result ExprSyntax ProcFault
statement_expr tables path scope d = expr_at sections.Body tables deepest path scope d
