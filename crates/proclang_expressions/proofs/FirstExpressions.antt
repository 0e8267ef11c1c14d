-- The fault that reading an expression meets is the first rule that it breaks.
use Rattle.std.proofs.Common.{◌≡◌, ℕ, zero, suc, leb, List, [], ◌∷◌, ◌++◌, length, Option, Some, None, is_some, Ok, refl}
use Rattle.serde_json.specs.Data.{Data}
use Rattle.documents.specs.FirstFault.{broken, IsFirst}
use Rattle.documents.specs.Reading.{◌>>=◌, rule}
use Rattle.documents.proofs.FirstFault.{bind_first, formed_first, ok_first, rule_last}
use Rattle.values.specs.declared.value.ColType.{ColType}
use Rattle.values.specs.declared.value.ColType.TheVariants as types
use Rattle.catalogue.specs.Places.{table_named}
use Rattle.catalogue.specs.Shapes.{TableShape}
use Rattle.proclang_types.specs.declared.operator.Equality.{Equality}
use Rattle.proclang_types.specs.declared.operator.Comparison.TheVariants as comparisons
use Rattle.proclang_types.specs.Syntax.{IntSyntax, binary, count_rows, sum_column, literal, BoolSyntax, compare_ints, both, either, negated, row_exists, ExprSyntax, int, text, bool}
use Rattle.proclang_expressions.specs.declared.fault.FaultKind.TheVariants.{Shape, UnknownTable, UnknownName, TypeMismatch, Limit}
use Rattle.proclang_expressions.specs.declared.fault.ProcFault.TheVariants.{At}
use Rattle.proclang_forms.specs.declared.operator.Operator.{Operator}
use Rattle.proclang_forms.specs.declared.operator.Operator.TheVariants.{Arithmetic, Less, AtMost, Same, And, Or}
use Rattle.proclang_forms.specs.declared.expr_forms.Section.{Section}
use Rattle.proclang_expressions.specs.declared.scope.Found.{Found}
use Rattle.proclang_expressions.specs.Faults.{refuse}
use Rattle.proclang_expressions.specs.Seen.{Seen, found_in}
use Rattle.proclang_expressions.specs.Lookups.{same_type, table_called, column_called}
use Rattle.proclang_forms.specs.ExprForms.{Form, number_form, literal_form, variable_form, not_form, binary_form, exists_form, count_form, sum_form, form_in}
use Rattle.proclang_expressions.specs.Expressions.{named, as_int, as_bool, two_ints, two_bools, two_alike, calculate, comparison_at, combine, PartReader, not_at, binary_at, exists_at, count_at, sum_at, node_at, expr_at}
use Rattle.proclang_expressions.specs.ExprTypes.{type_said, is_value_type, are_alike}
use Rattle.proclang_expressions.specs.BrokenNames.{not_table, column_type_said, not_column}
use Rattle.proclang_expressions.specs.BrokenExpressions.{not_int, not_bool, not_value, not_alike, in_types, is_int_column, PartRules, in_table_and_int, in_sum, in_form, in_deep_form, in_expr_form, in_expr}
use Rattle.proclang_expressions.proofs.FirstNames.{found_first, table_so, column_first, column_type_so}
use Rattle.proclang_expressions.proofs.FirstTypes.{type_read, type_so, int_first, bool_first}

-- ---- operators

-- both operands are of the types that are asked for, or the fault is at the first that isn't
module _ (scope : List Seen) (a b : Data) (p q : List ℕ) (x y : ExprSyntax) (a_is : type_said scope a ≡ Some (type_read x)) (b_is : type_said scope b ≡ Some (type_read y)) where
  two_ints_first : (make : IntSyntax → IntSyntax → ExprSyntax) → IsFirst (two_ints make p x q y) (not_int p scope a ++ not_int q scope b)
  unfolding two_ints
  two_ints_first make =
      bind_first (as_int p x) _ (not_int p scope a) (not_int q scope b) (int_first p scope a x a_is) (λ i _.
      ok_first (as_int q y) (make i) (not_int q scope b) (int_first q scope b y b_is))

  two_bools_first : (make : BoolSyntax → BoolSyntax → ExprSyntax) → IsFirst (two_bools make p x q y) (not_bool p scope a ++ not_bool q scope b)
  unfolding two_bools
  two_bools_first make =
      bind_first (as_bool p x) _ (not_bool p scope a) (not_bool q scope b) (bool_first p scope a x a_is) (λ i _.
      ok_first (as_bool q y) (make i) (not_bool q scope b) (bool_first q scope b y b_is))

alike_by : (test : Equality) (p q : List ℕ) (x y : ExprSyntax) → IsFirst (two_alike test p x q y)
    (broken (is_value_type (Some (type_read x))) (At TypeMismatch p) ++ broken (are_alike (Some (type_read x)) (Some (type_read y))) (At TypeMismatch q))
unfolding two_alike
alike_by test p q (int x) (int y) = refl
alike_by test p q (int x) (text y) = refl
alike_by test p q (int x) (bool y) = refl
alike_by test p q (text x) (int y) = refl
alike_by test p q (text x) (text y) = refl
alike_by test p q (text x) (bool y) = refl
alike_by test p q (bool x) y = refl

alike_first : (scope : List Seen) (a b : Data) (p q : List ℕ) (x y : ExprSyntax) → type_said scope a ≡ Some (type_read x) → type_said scope b ≡ Some (type_read y) → (test : Equality)
    → IsFirst (two_alike test p x q y) (not_value p scope a ++ not_alike q scope a b)
alike_first scope a b p q x y a_is b_is test = rw (a_is, b_is) (alike_by test p q x y)

combine_first : (scope : List Seen) (a b : Data) (p q : List ℕ) (x y : ExprSyntax) → type_said scope a ≡ Some (type_read x) → type_said scope b ≡ Some (type_read y) → (op : Operator) → IsFirst (combine op p x q y) (in_types op p q scope a b)
unfolding combine calculate comparison_at
combine_first scope a b p q x y s t (Arithmetic op) = two_ints_first scope a b p q x y s t (λ i j. int (binary op i j))
combine_first scope a b p q x y s t Less = two_ints_first scope a b p q x y s t (λ i j. bool (compare_ints comparisons.Less i j))
combine_first scope a b p q x y s t AtMost = two_ints_first scope a b p q x y s t (λ i j. bool (compare_ints comparisons.AtMost i j))
combine_first scope a b p q x y s t (Same test) = alike_first scope a b p q x y s t test
combine_first scope a b p q x y s t And = two_bools_first scope a b p q x y s t (λ i j. bool (both i j))
combine_first scope a b p q x y s t Or = two_bools_first scope a b p q x y s t (λ i j. bool (either i j))

-- ---- expressions

named_first : (path : List ℕ) (o : Option Found) → IsFirst (named path o) (broken (is_some o) (At UnknownName path))
named_first path None = refl
named_first path (Some v) = refl

sum_type_first : (path : List ℕ) (kind : ColType) (e : ExprSyntax) → IsFirst (rule (same_type kind types.Int) (At TypeMismatch path) >>= λ _. Ok e) (broken (is_int_column (Some kind)) (At TypeMismatch path))
sum_type_first path types.Int e = refl
sum_type_first path types.Text e = refl

module _ (tables : List TableShape) (part : PartReader) (faults : PartRules) (scope : List Seen)
    (law : (path : List ℕ) (d : Data) → IsFirst (part path scope d) (faults path scope d))
    (typed : (path : List ℕ) (d : Data) (e : ExprSyntax) → part path scope d ≡ Ok e → type_said scope d ≡ Some (type_read e)) where
  not_first : (path : List ℕ) (a : Data) → IsFirst (not_at part path scope a) (faults (path ++ 1 ∷ []) scope a ++ not_bool (path ++ 1 ∷ []) scope a)
  unfolding not_at
  not_first path a =
      let p = path ++ 1 ∷ [] in
      bind_first (part p scope a) _ (faults p scope a) (not_bool p scope a) (law p a) (λ x x_is.
      ok_first (as_bool p x) (λ b. bool (negated b)) (not_bool p scope a) (bool_first p scope a x (typed p a x x_is)))

  binary_first : (path : List ℕ) (op : Operator) (a b : Data) → IsFirst (binary_at part path scope op a b) (faults (path ++ 1 ∷ []) scope a ++ (faults (path ++ 2 ∷ []) scope b ++ in_types op (path ++ 1 ∷ []) (path ++ 2 ∷ []) scope a b))
  unfolding binary_at
  binary_first path op a b =
      let p = path ++ 1 ∷ [] in
      let q = path ++ 2 ∷ [] in
      bind_first (part p scope a) _ (faults p scope a) (faults q scope b ++ in_types op p q scope a b) (law p a) (λ x x_is.
      bind_first (part q scope b) _ (faults q scope b) (in_types op p q scope a b) (law q b) (λ y y_is.
      combine_first scope a b p q x y (typed p a x x_is) (typed q b y y_is) op))

  exists_first : (path : List ℕ) (table : List ℕ) (d : Data) → IsFirst (exists_at tables part path scope table d) (in_table_and_int tables faults path scope table d)
  unfolding exists_at
  exists_first path table d =
      let p = path ++ 1 ∷ [] in
      let q = path ++ 2 ∷ [] in
      bind_first (table_called p tables table) _ (not_table p tables table) (faults q scope d ++ not_int q scope d) (found_first (At UnknownTable p) (table_named tables table)) (λ t _.
      bind_first (part q scope d) _ (faults q scope d) (not_int q scope d) (law q d) (λ x x_is.
      ok_first (as_int q x) (λ k. bool (row_exists t k)) (not_int q scope d) (int_first q scope d x (typed q d x x_is))))

  count_first : (path : List ℕ) (table : List ℕ) (d : Data) → IsFirst (count_at tables part path scope table d) (in_table_and_int tables faults path scope table d)
  unfolding count_at
  count_first path table d =
      let p = path ++ 1 ∷ [] in
      let q = path ++ 2 ∷ [] in
      bind_first (table_called p tables table) _ (not_table p tables table) (faults q scope d ++ not_int q scope d) (found_first (At UnknownTable p) (table_named tables table)) (λ t _.
      bind_first (part q scope d) _ (faults q scope d) (not_int q scope d) (law q d) (λ x x_is.
      ok_first (as_int q x) (λ k. int (count_rows t k)) (not_int q scope d) (int_first q scope d x (typed q d x x_is))))

  sum_first : (path : List ℕ) (table : List ℕ) (d : Data) (column : List ℕ) → IsFirst (sum_at tables part path scope table d column) (in_sum tables faults path scope table d column)
  unfolding sum_at
  sum_first path table d column =
      let p = path ++ 1 ∷ [] in
      let q = path ++ 2 ∷ [] in
      let r = path ++ 3 ∷ [] in
      let last = broken (is_int_column (column_type_said tables table column)) (At TypeMismatch r) in
      bind_first (table_called p tables table) _ (not_table p tables table) (faults q scope d ++ (not_column r tables table column ++ (not_int q scope d ++ last))) (found_first (At UnknownTable p) (table_named tables table)) (λ t t_is.
      bind_first (part q scope d) _ (faults q scope d) (not_column r tables table column ++ (not_int q scope d ++ last)) (law q d) (λ x x_is.
      bind_first (column_called r tables t column) _ (not_column r tables table column) (not_int q scope d ++ last) (column_first r tables table column t (table_so p tables table t t_is)) (λ c c_is.
      bind_first (as_int q x) _ (not_int q scope d) last (int_first q scope d x (typed q d x x_is)) (λ k _.
      known r t c k (column_type_so r tables table column t c (table_so p tables table t t_is) c_is)))))
    where
      known : (r : List ℕ) (t : ℕ) (c : ℕ × ColType) (k : IntSyntax) → column_type_said tables table column ≡ Some c.1
          → IsFirst (rule (same_type c.1 types.Int) (At TypeMismatch r) >>= λ _. Ok (int (sum_column t k c.0))) (broken (is_int_column (column_type_said tables table column)) (At TypeMismatch r))
      known r t c k e = rw e (sum_type_first r c.1 (int (sum_column t k c.0)))

  node_first : (path : List ℕ) (f : Form) → IsFirst (node_at tables part path scope f) (in_form tables faults path scope f)
  unfolding node_at
  node_first path (number_form z) = refl
  node_first path (literal_form s) = rule_last (leb (length s) 64) (At Limit path) (text (literal s))
  node_first path (variable_form name) = named_first path (found_in name scope)
  node_first path (not_form a) = not_first path a
  node_first path (binary_form op a b) = binary_first path op a b
  node_first path (exists_form table d) = exists_first path table d
  node_first path (count_form table d) = count_first path table d
  node_first path (sum_form table d column) = sum_first path table d column

pub expr_first : (section : Section) (tables : List TableShape) (room : ℕ) (path : List ℕ) (scope : List Seen) (d : Data) → IsFirst (expr_at section tables room path scope d) (in_expr section tables room path scope d)
unfolding expr_at in_expr
expr_first section tables zero path scope d = formed_first (At Shape path) (form_in section d) (λ f. refuse Limit path) (in_deep_form path) refl (λ f. refl)
expr_first section tables (suc room) path scope d = formed_first (At Shape path) (form_in section d) (node_at tables (expr_at section tables room) path scope) (in_expr_form tables (in_expr section tables room) path scope) refl (λ f.
    node_first tables (expr_at section tables room) (in_expr section tables room) scope (λ p x. expr_first section tables room p scope x) (λ p x e. type_so section tables room p scope x e) path f)
