-- Claimed: what contracts promise to a reader rests on these words.
-- Which documents say an expression: a relation between documents and typed syntax, apart from paths, faults and the
-- order in which a document is read.
use Rattle.std.specs.Prelude.{◌≡◌, ◌⊎◌, ◌≤◌, ℕ, zero, suc, List, length, Some, true}
use Rattle.serde_json.specs.Data.{Data}
use Rattle.values.specs.declared.value.ColType.{ColType}
use Rattle.values.specs.declared.value.ColType.TheVariants as types
use Rattle.catalogue.specs.Places.{table_named}
use Rattle.catalogue.specs.Shapes.{TableShape}
use Rattle.proclang_types.specs.declared.operator.Comparison.TheVariants as comparisons
use Rattle.proclang_types.specs.Syntax.{IntSyntax, number, binary, count_rows, sum_column, TextSyntax, literal, BoolSyntax, compare_ints, compare_texts, both, either, negated, row_exists, ExprSyntax, int, text, bool, ValueSyntax, int_value, text_value}
use Rattle.proclang_forms.specs.declared.operator.Operator.{Operator}
use Rattle.proclang_forms.specs.declared.operator.Operator.TheVariants.{Arithmetic, Less, AtMost, Same, And, Or}
use Rattle.proclang_forms.specs.declared.expr_forms.Section.{Section}
use Rattle.proclang_forms.specs.declared.expr_forms.Section.TheVariants as sections
use Rattle.proclang_expressions.specs.declared.scope.Found.{Found}
use Rattle.proclang_forms.specs.ExprForms.{Form, number_form, literal_form, variable_form, not_form, binary_form, exists_form, count_form, sum_form, is_allowed}
use Rattle.proclang_expressions.specs.Expressions.{deepest, variable_syntax, of_ints}
use Rattle.proclang_expressions.specs.Lookups.{column_in}
use Rattle.proclang_expressions.specs.Seen.{Seen, found_in}
use Rattle.proclang_forms.specs.Spells.{SpellsExpr}

-- ---- tables and columns

-- a table, and a column of it with its type
abbrev pub NamesTable : List TableShape → List ℕ → ℕ → Type 0
NamesTable tables name place = table_named tables name ≡ Some place

-- a name is that of the column at a place, which has this type
abbrev pub NamesColumn : List TableShape → ℕ → List ℕ → ℕ → ColType → Type 0
NamesColumn tables table name place kind = column_in tables table name ≡ Some (place, kind)

-- ---- operators

-- both operands are Ints, Texts, or Bools
abbrev pub OfInts : (IntSyntax → IntSyntax → ExprSyntax) → ExprSyntax → ExprSyntax → ExprSyntax → Type 0
OfInts make x y e = (a : IntSyntax) × (b : IntSyntax) × (x ≡ int a) × (y ≡ int b) × (e ≡ make a b)

-- an operator on two texts
abbrev pub OfTexts : (TextSyntax → TextSyntax → ExprSyntax) → ExprSyntax → ExprSyntax → ExprSyntax → Type 0
OfTexts make x y e = (a : TextSyntax) × (b : TextSyntax) × (x ≡ text a) × (y ≡ text b) × (e ≡ make a b)

-- an operator on two tests
abbrev pub OfBools : (BoolSyntax → BoolSyntax → ExprSyntax) → ExprSyntax → ExprSyntax → ExprSyntax → Type 0
OfBools make x y e = (a : BoolSyntax) × (b : BoolSyntax) × (x ≡ bool a) × (y ≡ bool b) × (e ≡ make a b)

-- what an operator gives of two operands
abbrev pub Applies : Operator → ExprSyntax → ExprSyntax → ExprSyntax → Type 0
Applies (Arithmetic op) x y e = OfInts (λ a b. int (binary op a b)) x y e
Applies Less x y e = OfInts (λ a b. bool (compare_ints comparisons.Less a b)) x y e
Applies AtMost x y e = OfInts (λ a b. bool (compare_ints comparisons.AtMost a b)) x y e
Applies (Same test) x y e =
    OfInts (λ a b. bool (compare_ints (of_ints test) a b)) x y e ⊎ OfTexts (λ a b. bool (compare_texts test a b)) x y e
Applies And x y e = OfBools (λ a b. bool (both a b)) x y e
Applies Or x y e = OfBools (λ a b. bool (either a b)) x y e

-- ---- expressions

-- a number; a text of at most 64 bytes; a variable that is seen, with its type; "not" of a Bool; an operator; whether a
-- row is there; the number of rows of a partition; the total of an int column
abbrev pub SaysForm : List TableShape → (Data → ExprSyntax → Type 0) → List Seen → Form → ExprSyntax → Type 0
SaysForm tables part scope (number_form z) e = e ≡ int (number z)
SaysForm tables part scope (literal_form s) e = (length s ≤ 64) × (e ≡ text (literal s))
SaysForm tables part scope (variable_form name) e =
    (v : Found) × (found_in name scope ≡ Some v) × (e ≡ variable_syntax v.kind v.place)
SaysForm tables part scope (not_form a) e = (x : BoolSyntax) × part a (bool x) × (e ≡ bool (negated x))
SaysForm tables part scope (binary_form op a b) e =
    (x : ExprSyntax) × (y : ExprSyntax) × part a x × part b y × Applies op x y e
SaysForm tables part scope (exists_form table key) e =
    (t : ℕ) × (k : IntSyntax) × NamesTable tables table t × part key (int k) × (e ≡ bool (row_exists t k))
SaysForm tables part scope (count_form table partition) e =
    (t : ℕ) × (n : IntSyntax) × NamesTable tables table t × part partition (int n) × (e ≡ int (count_rows t n))
SaysForm tables part scope (sum_form table partition column) e =
    (t : ℕ) × (n : IntSyntax) × (c : ℕ) × NamesTable tables table t × part partition (int n)
    × NamesColumn tables t column c types.Int × (e ≡ int (sum_column t n c))

-- an expression in a section of a procedure, over the variables that are seen, of at most that many levels
abbrev pub SaysExpr : Section → List TableShape → ℕ → List Seen → Data → ExprSyntax → Type 0
SaysExpr section tables zero scope d e = ⊥
SaysExpr section tables (suc levels) scope d e = (form : Form) × SpellsExpr d form × (is_allowed section form ≡ true)
    × SaysForm tables (SaysExpr section tables levels scope) scope form e

-- in a statement: an Int, a Bool, and a value that a column may hold
abbrev pub SaysInt : List TableShape → List Seen → Data → IntSyntax → Type 0
SaysInt tables scope d e = SaysExpr sections.Body tables deepest scope d (int e)

-- a document says a test
abbrev pub SaysBool : List TableShape → List Seen → Data → BoolSyntax → Type 0
SaysBool tables scope d e = SaysExpr sections.Body tables deepest scope d (bool e)

abbrev pub as_expr : ValueSyntax → ExprSyntax
as_expr (int_value e) = int e
as_expr (text_value e) = text e

-- a document says an expression that gives a number or a text
abbrev pub SaysValue : List TableShape → List Seen → Data → ValueSyntax → Type 0
SaysValue tables scope d v = SaysExpr sections.Body tables deepest scope d (as_expr v)

-- in a footprint: an Int that asks for no rows
abbrev pub SaysFootprintInt : List TableShape → List Seen → Data → IntSyntax → Type 0
SaysFootprintInt tables scope d e = SaysExpr sections.Footprint tables deepest scope d (int e)
