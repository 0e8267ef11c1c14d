-- An expression that is read has the type that its document says, and a fault of types is the first rule that is broken.
use Rattle.std.proofs.Common.{◌≡◌, ℕ, zero, suc, List, [], ◌∷◌, ◌++◌, Option, Some, None, option_map, option_and_then, Ok, refl, sym, ap, ◌∙◌, subst}
use Rattle.serde_json.specs.Data.{Data}
use Rattle.documents.specs.FirstFault.{broken, IsFirst}
use Rattle.documents.specs.Reading.{formed}
use Rattle.documents.proofs.Steps.{bind_ok, rule_ok, formed_ok}
use Rattle.values.specs.declared.value.ColType.{ColType}
use Rattle.values.specs.declared.value.ColType.TheVariants as types
use Rattle.catalogue.specs.Shapes.{TableShape}
use Rattle.proclang_types.specs.declared.operator.Equality.{Equality}
use Rattle.proclang_types.specs.declared.operator.Comparison.TheVariants as comparisons
use Rattle.proclang_types.specs.Syntax.{IntSyntax, number, binary, count_rows, sum_column, literal, BoolSyntax, compare_ints, compare_texts, both, either, negated, row_exists, ExprSyntax, int, text, bool, ValueSyntax, int_value, text_value}
use Rattle.proclang_types.specs.Typing.{kind_of}
use Rattle.proclang_expressions.specs.declared.fault.FaultKind.TheVariants.{Shape, TypeMismatch}
use Rattle.proclang_expressions.specs.declared.fault.ProcFault.TheVariants.{At}
use Rattle.proclang_forms.specs.declared.operator.Operator.{Operator}
use Rattle.proclang_forms.specs.declared.operator.Operator.TheVariants.{Arithmetic, Less, AtMost, Same, And, Or}
use Rattle.proclang_forms.specs.declared.expr_forms.Section.{Section}
use Rattle.proclang_expressions.specs.declared.scope.Found.{Found}
use Rattle.proclang_expressions.specs.Seen.{Seen, found_in}
use Rattle.proclang_expressions.specs.Lookups.{same_type, table_called, column_called}
use Rattle.proclang_forms.specs.ExprForms.{Form, number_form, literal_form, variable_form, not_form, binary_form, exists_form, count_form, sum_form, form_in}
use Rattle.proclang_expressions.specs.Expressions.{variable_syntax, named, literal_at, as_int, as_text, as_bool, as_value, two_ints, two_bools, of_ints, two_alike, calculate, comparison_at, combine, PartReader, not_at, binary_at, exists_at, count_at, sum_at, node_at, expr_at}
use Rattle.proclang_expressions.specs.ExprTypes.{ExprType, int_type, text_type, bool_type, variable_type, result_type, type_of_form, type_said, is_int_type, is_bool_type, is_value_type, value_kind, kind_said}
use Rattle.proclang_expressions.specs.BrokenExpressions.{not_int, not_bool, not_value}
use Rattle.proclang_expressions.proofs.FootprintExpressions.{form_known}

-- ---- types

-- the type of what was read
abbrev pub type_read : ExprSyntax → ExprType
type_read (int e) = int_type
type_read (text e) = text_type
type_read (bool e) = bool_type

variable_so : (kind : ColType) (place : ℕ) → variable_type kind ≡ type_read (variable_syntax kind place)
variable_so types.Int place = refl
variable_so types.Text place = refl

named_so : (path : List ℕ) (o : Option Found) (e : ExprSyntax) → named path o ≡ Ok e → option_map (λ v. variable_type v.kind) o ≡ Some (type_read e)
named_so path None e r = absurd cc
named_so path (Some v) e r =
    let is : variable_syntax v.kind v.place ≡ e = cc in
    ap (λ (t : ExprType). Some t) (variable_so v.kind v.place ∙ ap type_read is)

literal_so : (path s : List ℕ) (e : ExprSyntax) → literal_at path s ≡ Ok e → Some text_type ≡ Some (type_read e)
literal_so path s e r =
    let few = bind_ok _ (λ _. Ok (text (literal s))) e r in
    let is : text (literal s) ≡ e = (let g = few.2 in cc) in
    ap (λ (x : ExprSyntax). Some (type_read x)) is

two_ints_so : (make : IntSyntax → IntSyntax → ExprSyntax) (t : ExprType) → ((a b : IntSyntax) → type_read (make a b) ≡ t) → (p : List ℕ) (x : ExprSyntax) (q : List ℕ) (y e : ExprSyntax) → two_ints make p x q y ≡ Ok e → t ≡ type_read e
unfolding two_ints
two_ints_so make t law p x q y e r =
    let a = bind_ok (as_int p x) _ e r in
    let b = bind_ok (as_int q y) _ e a.2 in
    let is : make a.0 b.0 ≡ e = (let k = b.2 in cc) in
    sym (law a.0 b.0) ∙ ap type_read is

two_bools_so : (make : BoolSyntax → BoolSyntax → ExprSyntax) (t : ExprType) → ((a b : BoolSyntax) → type_read (make a b) ≡ t) → (p : List ℕ) (x : ExprSyntax) (q : List ℕ) (y e : ExprSyntax) → two_bools make p x q y ≡ Ok e → t ≡ type_read e
unfolding two_bools
two_bools_so make t law p x q y e r =
    let a = bind_ok (as_bool p x) _ e r in
    let b = bind_ok (as_bool q y) _ e a.2 in
    let is : make a.0 b.0 ≡ e = (let k = b.2 in cc) in
    sym (law a.0 b.0) ∙ ap type_read is

two_alike_so : (test : Equality) (p : List ℕ) (x : ExprSyntax) (q : List ℕ) (y e : ExprSyntax) → two_alike test p x q y ≡ Ok e → bool_type ≡ type_read e
unfolding two_alike
two_alike_so test p (int x) q y e r =
    let b = bind_ok (as_int q y) _ e r in
    let is : bool (compare_ints (of_ints test) x b.0) ≡ e = (let k = b.2 in cc) in
    ap type_read is
two_alike_so test p (text x) q y e r =
    let b = bind_ok (as_text q y) _ e r in
    let is : bool (compare_texts test x b.0) ≡ e = (let k = b.2 in cc) in
    ap type_read is
two_alike_so test p (bool x) q y e r = absurd cc

combine_so : (op : Operator) (p : List ℕ) (x : ExprSyntax) (q : List ℕ) (y e : ExprSyntax) → combine op p x q y ≡ Ok e → result_type op ≡ type_read e
unfolding combine calculate comparison_at
combine_so (Arithmetic op) p x q y e r = two_ints_so (λ a b. int (binary op a b)) int_type (λ a b. refl) p x q y e r
combine_so Less p x q y e r = two_ints_so (λ a b. bool (compare_ints comparisons.Less a b)) bool_type (λ a b. refl) p x q y e r
combine_so AtMost p x q y e r = two_ints_so (λ a b. bool (compare_ints comparisons.AtMost a b)) bool_type (λ a b. refl) p x q y e r
combine_so (Same test) p x q y e r = two_alike_so test p x q y e r
combine_so And p x q y e r = two_bools_so (λ a b. bool (both a b)) bool_type (λ a b. refl) p x q y e r
combine_so Or p x q y e r = two_bools_so (λ a b. bool (either a b)) bool_type (λ a b. refl) p x q y e r

module _ (tables : List TableShape) (part : PartReader) (scope : List Seen) where
  not_so : (path : List ℕ) (a : Data) (e : ExprSyntax) → not_at part path scope a ≡ Ok e → bool_type ≡ type_read e
  unfolding not_at
  not_so path a e r =
      let x = bind_ok (part (path ++ 1 ∷ []) scope a) _ e r in
      let b = bind_ok (as_bool (path ++ 1 ∷ []) x.0) _ e x.2 in
      let is : bool (negated b.0) ≡ e = (let k = b.2 in cc) in
      ap type_read is

  binary_so : (path : List ℕ) (op : Operator) (a b : Data) (e : ExprSyntax) → binary_at part path scope op a b ≡ Ok e → result_type op ≡ type_read e
  unfolding binary_at
  binary_so path op a b e r =
      let x = bind_ok (part (path ++ 1 ∷ []) scope a) _ e r in
      let y = bind_ok (part (path ++ 2 ∷ []) scope b) _ e x.2 in
      combine_so op (path ++ 1 ∷ []) x.0 (path ++ 2 ∷ []) y.0 e y.2

  exists_so : (path : List ℕ) (table : List ℕ) (d : Data) (e : ExprSyntax) → exists_at tables part path scope table d ≡ Ok e → bool_type ≡ type_read e
  unfolding exists_at
  exists_so path table d e r =
      let t = bind_ok (table_called (path ++ 1 ∷ []) tables table) _ e r in
      let x = bind_ok (part (path ++ 2 ∷ []) scope d) _ e t.2 in
      let k = bind_ok (as_int (path ++ 2 ∷ []) x.0) _ e x.2 in
      let is : bool (row_exists t.0 k.0) ≡ e = (let g = k.2 in cc) in
      ap type_read is

  count_so : (path : List ℕ) (table : List ℕ) (d : Data) (e : ExprSyntax) → count_at tables part path scope table d ≡ Ok e → int_type ≡ type_read e
  unfolding count_at
  count_so path table d e r =
      let t = bind_ok (table_called (path ++ 1 ∷ []) tables table) _ e r in
      let x = bind_ok (part (path ++ 2 ∷ []) scope d) _ e t.2 in
      let k = bind_ok (as_int (path ++ 2 ∷ []) x.0) _ e x.2 in
      let is : int (count_rows t.0 k.0) ≡ e = (let g = k.2 in cc) in
      ap type_read is

  sum_so : (path : List ℕ) (table : List ℕ) (d : Data) (column : List ℕ) (e : ExprSyntax) → sum_at tables part path scope table d column ≡ Ok e → int_type ≡ type_read e
  unfolding sum_at
  sum_so path table d column e r =
      let t = bind_ok (table_called (path ++ 1 ∷ []) tables table) _ e r in
      let x = bind_ok (part (path ++ 2 ∷ []) scope d) _ e t.2 in
      let c = bind_ok (column_called (path ++ 3 ∷ []) tables t.0 column) _ e x.2 in
      let k = bind_ok (as_int (path ++ 2 ∷ []) x.0) _ e c.2 in
      let kind = rule_ok (same_type c.0.1 types.Int) (At TypeMismatch (path ++ 3 ∷ [])) _ e k.2 in
      let is : int (sum_column t.0 k.0 c.0.0) ≡ e = (let g = kind.1 in cc) in
      ap type_read is

  node_so : (path : List ℕ) (f : Form) (e : ExprSyntax) → node_at tables part path scope f ≡ Ok e → type_of_form scope f ≡ Some (type_read e)
  unfolding node_at
  node_so path (number_form z) e r = let is : int (number z) ≡ e = cc in ap (λ (s : ExprSyntax). Some (type_read s)) is
  node_so path (literal_form s) e r = literal_so path s e r
  node_so path (variable_form name) e r = named_so path (found_in name scope) e r
  node_so path (not_form a) e r = ap (λ (t : ExprType). Some t) (not_so path a e r)
  node_so path (binary_form op a b) e r = ap (λ (t : ExprType). Some t) (binary_so path op a b e r)
  node_so path (exists_form table d) e r = ap (λ (t : ExprType). Some t) (exists_so path table d e r)
  node_so path (count_form table d) e r = ap (λ (t : ExprType). Some t) (count_so path table d e r)
  node_so path (sum_form table d column) e r = ap (λ (t : ExprType). Some t) (sum_so path table d column e r)

-- an expression that is read has the type that its document says
pub type_so : (section : Section) (tables : List TableShape) (room : ℕ) (path : List ℕ) (scope : List Seen) (d : Data) (e : ExprSyntax) → expr_at section tables room path scope d ≡ Ok e → type_said scope d ≡ Some (type_read e)
unfolding expr_at
type_so section tables zero path scope d e r = let f = bind_ok (formed (At Shape path) (form_in section d)) _ e r in absurd (let h = f.2 in cc)
type_so section tables (suc room) path scope d e r =
    let f = bind_ok (formed (At Shape path) (form_in section d)) _ e r in
    let is = form_known section d f.0 (formed_ok (At Shape path) (form_in section d) f.0 f.1) in
    ap (option_and_then (type_of_form scope)) is.0 ∙ node_so tables (expr_at section tables room) scope path f.0 e f.2

-- a value that is read has the type that its document says
pub kind_so : (path : List ℕ) (scope : List Seen) (d : Data) (e : ExprSyntax) (v : ValueSyntax) → type_said scope d ≡ Some (type_read e) → as_value path e ≡ Ok v → kind_said scope d ≡ Some (kind_of v)
kind_so path scope d e v is h = ap (option_and_then value_kind) is ∙ by e h
  where
    by : (e : ExprSyntax) → as_value path e ≡ Ok v → value_kind (type_read e) ≡ Some (kind_of v)
    by (int x) h = let same : int_value x ≡ v = cc in ap (λ (w : ValueSyntax). Some (kind_of w)) same
    by (text x) h = let same : text_value x ≡ v = cc in ap (λ (w : ValueSyntax). Some (kind_of w)) same
    by (bool x) h = absurd cc

-- ---- operands of the type that is asked for

int_by : (path : List ℕ) (e : ExprSyntax) → IsFirst (as_int path e) (broken (is_int_type (Some (type_read e))) (At TypeMismatch path))
int_by path (int e) = refl
int_by path (text e) = refl
int_by path (bool e) = refl

pub int_first : (path : List ℕ) (scope : List Seen) (d : Data) (e : ExprSyntax) → type_said scope d ≡ Some (type_read e) → IsFirst (as_int path e) (not_int path scope d)
int_first path scope d e is = subst (λ (t : Option ExprType). IsFirst (as_int path e) (broken (is_int_type t) (At TypeMismatch path))) (sym is) (int_by path e)

bool_by : (path : List ℕ) (e : ExprSyntax) → IsFirst (as_bool path e) (broken (is_bool_type (Some (type_read e))) (At TypeMismatch path))
bool_by path (int e) = refl
bool_by path (text e) = refl
bool_by path (bool e) = refl

pub bool_first : (path : List ℕ) (scope : List Seen) (d : Data) (e : ExprSyntax) → type_said scope d ≡ Some (type_read e) → IsFirst (as_bool path e) (not_bool path scope d)
bool_first path scope d e is = subst (λ (t : Option ExprType). IsFirst (as_bool path e) (broken (is_bool_type t) (At TypeMismatch path))) (sym is) (bool_by path e)

value_by : (path : List ℕ) (e : ExprSyntax) → IsFirst (as_value path e) (broken (is_value_type (Some (type_read e))) (At TypeMismatch path))
value_by path (int e) = refl
value_by path (text e) = refl
value_by path (bool e) = refl

pub value_first : (path : List ℕ) (scope : List Seen) (d : Data) (e : ExprSyntax) → type_said scope d ≡ Some (type_read e) → IsFirst (as_value path e) (not_value path scope d)
value_first path scope d e is = subst (λ (t : Option ExprType). IsFirst (as_value path e) (broken (is_value_type t) (At TypeMismatch path))) (sym is) (value_by path e)
