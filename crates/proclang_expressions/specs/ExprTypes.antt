-- Claimed: what contracts promise to a reader rests on these words.
-- The type that an expression has, by its outermost word alone.
use Rattle.std.specs.Prelude.{Bool, true, false, List, Option, Some, None, option_map, option_and_then}
use Rattle.serde_json.specs.Data.{Data}
use Rattle.values.specs.declared.value.ColType.{ColType}
use Rattle.values.specs.declared.value.ColType.TheVariants as types
use Rattle.proclang_forms.specs.declared.operator.Operator.{Operator}
use Rattle.proclang_forms.specs.declared.operator.Operator.TheVariants.{Arithmetic, Less, AtMost, Same, And, Or}
use Rattle.proclang_expressions.specs.Seen.{Seen, found_in}
use Rattle.proclang_forms.specs.ExprForms.{Form, number_form, literal_form, variable_form, not_form, binary_form, exists_form, count_form, sum_form, expr_form}

-- Int, Text and Bool. No variable, column or reply is Bool.
pub data ExprType : Type 0 where
  int_type text_type bool_type : ExprType

-- the type of a variable
abbrev pub variable_type : ColType → ExprType
variable_type types.Int = int_type
variable_type types.Text = text_type

-- the type of what an operator gives
abbrev pub result_type : Operator → ExprType
result_type (Arithmetic op) = int_type
result_type Less = bool_type
result_type AtMost = bool_type
result_type (Same test) = bool_type
result_type And = bool_type
result_type Or = bool_type

-- the type of what an expression of that form gives, if it has one
abbrev pub type_of_form : List Seen → Form → Option ExprType
type_of_form scope (number_form z) = Some int_type
type_of_form scope (literal_form s) = Some text_type
type_of_form scope (variable_form name) = option_map (λ v. variable_type v.kind) (found_in name scope)
type_of_form scope (not_form a) = Some bool_type
type_of_form scope (binary_form op a b) = Some (result_type op)
type_of_form scope (exists_form table key) = Some bool_type
type_of_form scope (count_form table part) = Some int_type
type_of_form scope (sum_form table part column) = Some int_type

-- the type of an expression, where it has a form and its variable is seen
abbrev pub type_said : List Seen → Data → Option ExprType
type_said scope d = option_and_then (type_of_form scope) (expr_form d)

-- the type is Int
abbrev pub is_int_type : Option ExprType → Bool
is_int_type None = false
is_int_type (Some int_type) = true
is_int_type (Some text_type) = false
is_int_type (Some bool_type) = false

-- the type is Bool
abbrev pub is_bool_type : Option ExprType → Bool
is_bool_type None = false
is_bool_type (Some int_type) = false
is_bool_type (Some text_type) = false
is_bool_type (Some bool_type) = true

-- what a column, a variable or a reply may hold
abbrev pub is_value_type : Option ExprType → Bool
is_value_type None = false
is_value_type (Some int_type) = true
is_value_type (Some text_type) = true
is_value_type (Some bool_type) = false

-- both have one type
abbrev pub are_alike : Option ExprType → Option ExprType → Bool
are_alike (Some int_type) (Some int_type) = true
are_alike (Some text_type) (Some text_type) = true
are_alike (Some bool_type) (Some bool_type) = true
are_alike a b = false

-- the type of a value
abbrev pub value_kind : ExprType → Option ColType
value_kind int_type = Some types.Int
value_kind text_type = Some types.Text
value_kind bool_type = None

-- the type of a value that an expression says
abbrev pub kind_said : List Seen → Data → Option ColType
kind_said scope d = option_and_then value_kind (type_said scope d)
