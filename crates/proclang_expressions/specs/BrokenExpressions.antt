-- Claimed: what contracts promise to a reader rests on these words.
-- The faults of an expression, each with its path, in the order in which rules are looked at: a form before its parts,
-- the parts from left to right, and their types after all of them. No rule here depends on what reading gives.
use Rattle.std.specs.Prelude.{ℕ, zero, suc, nat_le, Bool, true, false, List, [], ◌∷◌, ◌++◌, length, Option, Some, None, is_some}
use Rattle.serde_json.specs.Data.{Data}
use Rattle.documents.specs.FirstFault.{broken}
use Rattle.values.specs.declared.value.ColType.{ColType}
use Rattle.values.specs.declared.value.ColType.TheVariants as types
use Rattle.catalogue.specs.Shapes.{TableShape}
use Rattle.proclang_expressions.specs.declared.fault.FaultKind.TheVariants.{Shape, UnknownName, TypeMismatch, Limit}
use Rattle.proclang_expressions.specs.declared.fault.ProcFault.{ProcFault}
use Rattle.proclang_expressions.specs.declared.fault.ProcFault.TheVariants.{At}
use Rattle.proclang_forms.specs.declared.operator.Operator.{Operator}
use Rattle.proclang_forms.specs.declared.operator.Operator.TheVariants.{Arithmetic, Less, AtMost, Same, And, Or}
use Rattle.proclang_forms.specs.declared.expr_forms.Section.{Section}
use Rattle.proclang_forms.specs.declared.expr_forms.Section.TheVariants as sections
use Rattle.proclang_expressions.specs.Seen.{Seen, found_in}
use Rattle.proclang_expressions.specs.Expressions.{deepest}
use Rattle.proclang_forms.specs.ExprForms.{Form, number_form, literal_form, variable_form, not_form, binary_form, exists_form, count_form, sum_form, form_in}
use Rattle.proclang_expressions.specs.ExprTypes.{type_said, is_int_type, is_bool_type, is_value_type, are_alike}
use Rattle.proclang_expressions.specs.BrokenNames.{not_table, column_type_said, not_column}

-- ---- types

-- an expression of another type is where an Int is asked for
abbrev pub not_int : List ℕ → List Seen → Data → List ProcFault
not_int path scope d = broken (is_int_type (type_said scope d)) (At TypeMismatch path)

-- an expression of another type is where a Bool is asked for
abbrev pub not_bool : List ℕ → List Seen → Data → List ProcFault
not_bool path scope d = broken (is_bool_type (type_said scope d)) (At TypeMismatch path)

-- an expression is where a number or a text is asked for, and is neither
abbrev pub not_value : List ℕ → List Seen → Data → List ProcFault
not_value path scope d = broken (is_value_type (type_said scope d)) (At TypeMismatch path)

-- the second operand has another type than the first
abbrev pub not_alike : List ℕ → List Seen → Data → Data → List ProcFault
not_alike path scope a b = broken (are_alike (type_said scope a) (type_said scope b)) (At TypeMismatch path)

-- two Ints; two Ints or two Texts; two Bools
abbrev pub in_types : Operator → List ℕ → List ℕ → List Seen → Data → Data → List ProcFault
in_types (Arithmetic op) p q scope a b = not_int p scope a ++ not_int q scope b
in_types Less p q scope a b = not_int p scope a ++ not_int q scope b
in_types AtMost p q scope a b = not_int p scope a ++ not_int q scope b
in_types (Same test) p q scope a b = not_value p scope a ++ not_alike q scope a b
in_types And p q scope a b = not_bool p scope a ++ not_bool q scope b
in_types Or p q scope a b = not_bool p scope a ++ not_bool q scope b

-- a column whose rows are added up
abbrev pub is_int_column : Option ColType → Bool
is_int_column None = false
is_int_column (Some types.Int) = true
is_int_column (Some types.Text) = false

-- ---- expressions

-- the rules that parts break
abbrev pub PartRules : Type 0
PartRules = List ℕ → List Seen → Data → List ProcFault

-- a table and an Int
abbrev pub in_table_and_int : List TableShape → PartRules → List ℕ → List Seen → List ℕ → Data → List ProcFault
in_table_and_int tables part path scope table d =
    not_table (path ++ 1 ∷ []) tables table
    ++ (part (path ++ 2 ∷ []) scope d
    ++ not_int (path ++ 2 ∷ []) scope d)

-- a table, an Int, and an int column of the table
abbrev pub in_sum : List TableShape → PartRules → List ℕ → List Seen → List ℕ → Data → List ℕ → List ProcFault
in_sum tables part path scope table d column =
    not_table (path ++ 1 ∷ []) tables table
    ++ (part (path ++ 2 ∷ []) scope d
    ++ (not_column (path ++ 3 ∷ []) tables table column
    ++ (not_int (path ++ 2 ∷ []) scope d
    ++ broken (is_int_column (column_type_said tables table column)) (At TypeMismatch (path ++ 3 ∷ [])))))

-- the rules that a form breaks: a literal is not too long; a variable is seen; the parts are well formed, and then of
-- the types that are asked for
abbrev pub in_form : List TableShape → PartRules → List ℕ → List Seen → Form → List ProcFault
in_form tables part path scope (number_form z) = []
in_form tables part path scope (literal_form s) = broken (nat_le (length s) 64) (At Limit path)
in_form tables part path scope (variable_form name) = broken (is_some (found_in name scope)) (At UnknownName path)
in_form tables part path scope (not_form a) = part (path ++ 1 ∷ []) scope a ++ not_bool (path ++ 1 ∷ []) scope a
in_form tables part path scope (binary_form op a b) =
    part (path ++ 1 ∷ []) scope a
    ++ (part (path ++ 2 ∷ []) scope b
    ++ in_types op (path ++ 1 ∷ []) (path ++ 2 ∷ []) scope a b)
in_form tables part path scope (exists_form table key) = in_table_and_int tables part path scope table key
in_form tables part path scope (count_form table d) = in_table_and_int tables part path scope table d
in_form tables part path scope (sum_form table d column) = in_sum tables part path scope table d column

-- an expression that is nested too deep
abbrev pub in_deep_form : List ℕ → Option Form → List ProcFault
in_deep_form path None = At Shape path ∷ []
in_deep_form path (Some f) = At Limit path ∷ []

abbrev pub in_expr_form : List TableShape → PartRules → List ℕ → List Seen → Option Form → List ProcFault
in_expr_form tables part path scope None = At Shape path ∷ []
in_expr_form tables part path scope (Some f) = in_form tables part path scope f

-- the rules that an expression breaks in a section of a procedure, where that many levels may still nest
unfoldable pub in_expr : Section → List TableShape → ℕ → List ℕ → List Seen → Data → List ProcFault
in_expr section tables zero path scope d = in_deep_form path (form_in section d)
in_expr section tables (suc room) path scope d =
    in_expr_form tables (in_expr section tables room) path scope (form_in section d)

-- those that an outermost expression in a statement breaks
abbrev pub in_statement_expr : List TableShape → List ℕ → List Seen → Data → List ProcFault
in_statement_expr tables path scope d = in_expr sections.Body tables deepest path scope d
