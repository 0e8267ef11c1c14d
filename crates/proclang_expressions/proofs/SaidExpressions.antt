-- What is read is an expression that the document says, and such an expression is read.
use Rattle.std.proofs.Common.{◌≡◌, ◌≤◌, ℕ, zero, suc, true, leb, List, [], ◌∷◌, ◌++◌, length, Option, Some, None, Ok, refl, sym, ap, ◌∙◌, subst, inl, inr}
use Rattle.std.proofs.lemmas.Bool.{leb-true, le-leb}
use Rattle.serde_json.specs.Data.{Data}
use Rattle.documents.specs.Reading.{formed}
use Rattle.documents.proofs.Steps.{bind_ok, rule_ok, formed_ok}
use Rattle.values.specs.declared.value.ColType.{ColType}
use Rattle.values.specs.declared.value.ColType.TheVariants as types
use Rattle.catalogue.specs.Places.{table_named}
use Rattle.catalogue.specs.Shapes.{TableShape}
use Rattle.proclang_types.specs.declared.operator.Equality.{Equality}
use Rattle.proclang_types.specs.declared.operator.Comparison.TheVariants as comparisons
use Rattle.proclang_types.specs.Syntax.{IntSyntax, number, binary, count_rows, sum_column, TextSyntax, literal, BoolSyntax, compare_ints, both, either, negated, row_exists, ExprSyntax, int, text, bool, ValueSyntax, int_value, text_value}
use Rattle.proclang_expressions.specs.declared.fault.FaultKind.TheVariants.{Shape, UnknownTable, UnknownColumn, TypeMismatch, Limit}
use Rattle.proclang_expressions.specs.declared.fault.ProcFault.TheVariants.{At}
use Rattle.proclang_forms.specs.declared.operator.Operator.{Operator}
use Rattle.proclang_forms.specs.declared.operator.Operator.TheVariants.{Arithmetic, Less, AtMost, Same, And, Or}
use Rattle.proclang_forms.specs.declared.expr_forms.Section.{Section}
use Rattle.proclang_expressions.specs.declared.scope.Found.{Found}
use Rattle.proclang_expressions.specs.Seen.{Seen, found_in}
use Rattle.proclang_expressions.specs.Lookups.{same_type, table_called, column_in, column_called}
use Rattle.proclang_forms.specs.ExprForms.{Form, number_form, literal_form, variable_form, not_form, binary_form, exists_form, count_form, sum_form, form_in}
use Rattle.proclang_expressions.specs.Expressions.{variable_syntax, named, literal_at, as_int, as_text, as_bool, as_value, two_ints, two_bools, two_alike, calculate, comparison_at, combine, PartReader, not_at, binary_at, exists_at, count_at, sum_at, node_at, expr_at}
use Rattle.proclang_expressions.specs.SaysExpressions.{OfInts, OfBools, Applies, SaysForm, SaysExpr, as_expr}
use Rattle.proclang_expressions.proofs.FootprintExpressions.{form_known, form_again}
use Rattle.proclang_forms.proofs.SpelledExpressions.{expr_said, expr_again}
use Rattle.proclang_expressions.proofs.TypedExpressions.{types_are}

-- ---- types

pub int_found : (path : List ℕ) (e : ExprSyntax) (x : IntSyntax) → as_int path e ≡ Ok x → e ≡ int x
int_found path (int y) x h = cc
int_found path (text y) x h = absurd cc
int_found path (bool y) x h = absurd cc

text_found : (path : List ℕ) (e : ExprSyntax) (x : TextSyntax) → as_text path e ≡ Ok x → e ≡ text x
text_found path (text y) x h = cc
text_found path (int y) x h = absurd cc
text_found path (bool y) x h = absurd cc

pub bool_found : (path : List ℕ) (e : ExprSyntax) (x : BoolSyntax) → as_bool path e ≡ Ok x → e ≡ bool x
bool_found path (bool y) x h = cc
bool_found path (int y) x h = absurd cc
bool_found path (text y) x h = absurd cc

pub value_found : (path : List ℕ) (e : ExprSyntax) (v : ValueSyntax) → as_value path e ≡ Ok v → e ≡ as_expr v
value_found path (int y) v h = let is : int_value y ≡ v = cc in ap as_expr is
value_found path (text y) v h = let is : text_value y ≡ v = cc in ap as_expr is
value_found path (bool y) v h = absurd cc

pub value_again : (path : List ℕ) (v : ValueSyntax) → as_value path (as_expr v) ≡ Ok v
value_again path (int_value e) = refl
value_again path (text_value e) = refl

-- ---- operators

two_ints_found : (make : IntSyntax → IntSyntax → ExprSyntax) (p : List ℕ) (x : ExprSyntax) (q : List ℕ) (y e : ExprSyntax) → two_ints make p x q y ≡ Ok e → OfInts make x y e
unfolding two_ints
two_ints_found make p x q y e h =
    let i = bind_ok (as_int p x) _ e h in
    let j = bind_ok (as_int q y) _ e i.2 in
    (i.0, j.0, int_found p x i.0 i.1, int_found q y j.0 j.1, (let g = j.2 in cc))

two_ints_again : (make : IntSyntax → IntSyntax → ExprSyntax) (p : List ℕ) (x : ExprSyntax) (q : List ℕ) (y e : ExprSyntax) → OfInts make x y e → two_ints make p x q y ≡ Ok e
unfolding two_ints
two_ints_again make p x q y e h = rw (h.2, h.3) (ap (λ (z : ExprSyntax). Ok z) (sym h.4))

two_bools_found : (make : BoolSyntax → BoolSyntax → ExprSyntax) (p : List ℕ) (x : ExprSyntax) (q : List ℕ) (y e : ExprSyntax) → two_bools make p x q y ≡ Ok e → OfBools make x y e
unfolding two_bools
two_bools_found make p x q y e h =
    let i = bind_ok (as_bool p x) _ e h in
    let j = bind_ok (as_bool q y) _ e i.2 in
    (i.0, j.0, bool_found p x i.0 i.1, bool_found q y j.0 j.1, (let g = j.2 in cc))

two_bools_again : (make : BoolSyntax → BoolSyntax → ExprSyntax) (p : List ℕ) (x : ExprSyntax) (q : List ℕ) (y e : ExprSyntax) → OfBools make x y e → two_bools make p x q y ≡ Ok e
unfolding two_bools
two_bools_again make p x q y e h = rw (h.2, h.3) (ap (λ (z : ExprSyntax). Ok z) (sym h.4))

two_alike_found : (test : Equality) (p : List ℕ) (x : ExprSyntax) (q : List ℕ) (y e : ExprSyntax) → two_alike test p x q y ≡ Ok e → Applies (Same test) x y e
unfolding two_alike
two_alike_found test p (int x) q y e h =
    let j = bind_ok (as_int q y) _ e h in
    inl (x, j.0, refl, int_found q y j.0 j.1, (let g = j.2 in cc))
two_alike_found test p (text x) q y e h =
    let j = bind_ok (as_text q y) _ e h in
    inr (x, j.0, refl, text_found q y j.0 j.1, (let g = j.2 in cc))
two_alike_found test p (bool x) q y e h = absurd cc

two_alike_again : (test : Equality) (p : List ℕ) (x : ExprSyntax) (q : List ℕ) (y e : ExprSyntax) → Applies (Same test) x y e → two_alike test p x q y ≡ Ok e
unfolding two_alike
two_alike_again test p x q y e (inl h) = rw (h.2, h.3) (ap (λ (z : ExprSyntax). Ok z) (sym h.4))
two_alike_again test p x q y e (inr h) = rw (h.2, h.3) (ap (λ (z : ExprSyntax). Ok z) (sym h.4))

combine_found : (op : Operator) (p : List ℕ) (x : ExprSyntax) (q : List ℕ) (y e : ExprSyntax) → combine op p x q y ≡ Ok e → Applies op x y e
unfolding combine calculate comparison_at
combine_found (Arithmetic op) p x q y e h = two_ints_found (λ i j. int (binary op i j)) p x q y e h
combine_found Less p x q y e h = two_ints_found (λ i j. bool (compare_ints comparisons.Less i j)) p x q y e h
combine_found AtMost p x q y e h = two_ints_found (λ i j. bool (compare_ints comparisons.AtMost i j)) p x q y e h
combine_found (Same test) p x q y e h = two_alike_found test p x q y e h
combine_found And p x q y e h = two_bools_found (λ i j. bool (both i j)) p x q y e h
combine_found Or p x q y e h = two_bools_found (λ i j. bool (either i j)) p x q y e h

combine_again : (op : Operator) (p : List ℕ) (x : ExprSyntax) (q : List ℕ) (y e : ExprSyntax) → Applies op x y e → combine op p x q y ≡ Ok e
unfolding combine calculate comparison_at
combine_again (Arithmetic op) p x q y e h = two_ints_again (λ i j. int (binary op i j)) p x q y e h
combine_again Less p x q y e h = two_ints_again (λ i j. bool (compare_ints comparisons.Less i j)) p x q y e h
combine_again AtMost p x q y e h = two_ints_again (λ i j. bool (compare_ints comparisons.AtMost i j)) p x q y e h
combine_again (Same test) p x q y e h = two_alike_again test p x q y e h
combine_again And p x q y e h = two_bools_again (λ i j. bool (both i j)) p x q y e h
combine_again Or p x q y e h = two_bools_again (λ i j. bool (either i j)) p x q y e h

-- ---- variables and literals

named_found : (path : List ℕ) (o : Option Found) (e : ExprSyntax) → named path o ≡ Ok e → (v : Found) × (o ≡ Some v) × (e ≡ variable_syntax v.kind v.place)
named_found path None e h = absurd cc
named_found path (Some v) e h = (v, refl, (let is : variable_syntax v.kind v.place ≡ e = cc in sym is))

literal_found : (path s : List ℕ) (e : ExprSyntax) → literal_at path s ≡ Ok e → (length s ≤ 64) × (e ≡ text (literal s))
literal_found path s e h =
    let few = rule_ok (leb (length s) 64) (At Limit path) (λ _. Ok (text (literal s))) e h in
    (leb-true (length s) 64 few.0, (let is : text (literal s) ≡ e = (let g = few.1 in cc) in sym is))

literal_read : (path s : List ℕ) (e : ExprSyntax) → length s ≤ 64 → e ≡ text (literal s) → literal_at path s ≡ Ok e
literal_read path s e few is = rw (le-leb (length s) 64 few) (ap (λ (x : ExprSyntax). Ok x) (sym is))

same_again : (kind : ColType) → kind ≡ types.Int → same_type kind types.Int ≡ true
same_again types.Int e = refl
same_again types.Text e = absurd cc

-- ---- expressions

module _ (tables : List TableShape) (part : PartReader) (says : Data → ExprSyntax → Type 0) (scope : List Seen) (law : (path : List ℕ) (d : Data) (e : ExprSyntax) → part path scope d ≡ Ok e → says d e) where
  not_found : (path : List ℕ) (a : Data) (e : ExprSyntax) → not_at part path scope a ≡ Ok e → SaysForm tables says scope (not_form a) e
  unfolding not_at
  not_found path a e h =
      let x = bind_ok (part (path ++ 1 ∷ []) scope a) _ e h in
      let b = bind_ok (as_bool (path ++ 1 ∷ []) x.0) _ e x.2 in
      let is : bool (negated b.0) ≡ e = (let g = b.2 in cc) in
      (b.0, subst (says a) (bool_found (path ++ 1 ∷ []) x.0 b.0 b.1) (law (path ++ 1 ∷ []) a x.0 x.1), sym is)

  binary_found : (path : List ℕ) (op : Operator) (a b : Data) (e : ExprSyntax) → binary_at part path scope op a b ≡ Ok e → SaysForm tables says scope (binary_form op a b) e
  unfolding binary_at
  binary_found path op a b e h =
      let x = bind_ok (part (path ++ 1 ∷ []) scope a) _ e h in
      let y = bind_ok (part (path ++ 2 ∷ []) scope b) _ e x.2 in
      (x.0, y.0, law (path ++ 1 ∷ []) a x.0 x.1, law (path ++ 2 ∷ []) b y.0 y.1, combine_found op (path ++ 1 ∷ []) x.0 (path ++ 2 ∷ []) y.0 e y.2)

  exists_found : (path : List ℕ) (table : List ℕ) (d : Data) (e : ExprSyntax) → exists_at tables part path scope table d ≡ Ok e → SaysForm tables says scope (exists_form table d) e
  unfolding exists_at
  exists_found path table d e h =
      let t = bind_ok (table_called (path ++ 1 ∷ []) tables table) _ e h in
      let x = bind_ok (part (path ++ 2 ∷ []) scope d) _ e t.2 in
      let k = bind_ok (as_int (path ++ 2 ∷ []) x.0) _ e x.2 in
      let is : bool (row_exists t.0 k.0) ≡ e = (let g = k.2 in cc) in
      (t.0, k.0, formed_ok (At UnknownTable (path ++ 1 ∷ [])) (table_named tables table) t.0 t.1, subst (says d) (int_found (path ++ 2 ∷ []) x.0 k.0 k.1) (law (path ++ 2 ∷ []) d x.0 x.1), sym is)

  count_found : (path : List ℕ) (table : List ℕ) (d : Data) (e : ExprSyntax) → count_at tables part path scope table d ≡ Ok e → SaysForm tables says scope (count_form table d) e
  unfolding count_at
  count_found path table d e h =
      let t = bind_ok (table_called (path ++ 1 ∷ []) tables table) _ e h in
      let x = bind_ok (part (path ++ 2 ∷ []) scope d) _ e t.2 in
      let k = bind_ok (as_int (path ++ 2 ∷ []) x.0) _ e x.2 in
      let is : int (count_rows t.0 k.0) ≡ e = (let g = k.2 in cc) in
      (t.0, k.0, formed_ok (At UnknownTable (path ++ 1 ∷ [])) (table_named tables table) t.0 t.1, subst (says d) (int_found (path ++ 2 ∷ []) x.0 k.0 k.1) (law (path ++ 2 ∷ []) d x.0 x.1), sym is)

  sum_found : (path : List ℕ) (table : List ℕ) (d : Data) (column : List ℕ) (e : ExprSyntax) → sum_at tables part path scope table d column ≡ Ok e → SaysForm tables says scope (sum_form table d column) e
  unfolding sum_at
  sum_found path table d column e h =
      let t = bind_ok (table_called (path ++ 1 ∷ []) tables table) _ e h in
      let x = bind_ok (part (path ++ 2 ∷ []) scope d) _ e t.2 in
      let c = bind_ok (column_called (path ++ 3 ∷ []) tables t.0 column) _ e x.2 in
      let k = bind_ok (as_int (path ++ 2 ∷ []) x.0) _ e c.2 in
      let kind = rule_ok (same_type c.0.1 types.Int) (At TypeMismatch (path ++ 3 ∷ [])) _ e k.2 in
      let is : int (sum_column t.0 k.0 c.0.0) ≡ e = (let g = kind.1 in cc) in
      let column_is : column_in tables t.0 column ≡ Some (c.0.0, types.Int) =
      formed_ok (At UnknownColumn (path ++ 3 ∷ [])) (column_in tables t.0 column) c.0 c.1 ∙ ap (λ (q : ColType). Some (c.0.0, q)) (types_are c.0.1 types.Int kind.0) in
      (t.0, k.0, c.0.0, formed_ok (At UnknownTable (path ++ 1 ∷ [])) (table_named tables table) t.0 t.1, subst (says d) (int_found (path ++ 2 ∷ []) x.0 k.0 k.1) (law (path ++ 2 ∷ []) d x.0 x.1), column_is, sym is)

  node_found : (path : List ℕ) (f : Form) (e : ExprSyntax) → node_at tables part path scope f ≡ Ok e → SaysForm tables says scope f e
  unfolding node_at
  node_found path (number_form z) e h = let is : int (number z) ≡ e = cc in sym is
  node_found path (literal_form s) e h = literal_found path s e h
  node_found path (variable_form name) e h = named_found path (found_in name scope) e h
  node_found path (not_form a) e h = not_found path a e h
  node_found path (binary_form op a b) e h = binary_found path op a b e h
  node_found path (exists_form table d) e h = exists_found path table d e h
  node_found path (count_form table d) e h = count_found path table d e h
  node_found path (sum_form table d column) e h = sum_found path table d column e h

module _ (tables : List TableShape) (part : PartReader) (says : Data → ExprSyntax → Type 0) (scope : List Seen) (law : (path : List ℕ) (d : Data) (e : ExprSyntax) → says d e → part path scope d ≡ Ok e) where
  node_again : (path : List ℕ) (f : Form) (e : ExprSyntax) → SaysForm tables says scope f e → node_at tables part path scope f ≡ Ok e
  unfolding node_at not_at binary_at exists_at count_at sum_at
  node_again path (number_form z) e h = ap (λ (x : ExprSyntax). Ok x) (sym h)
  node_again path (literal_form s) e h = literal_read path s e h.0 h.1
  node_again path (variable_form name) e h = ap (named path) h.1 ∙ ap (λ (x : ExprSyntax). Ok x) (sym h.2)
  node_again path (not_form a) e h = rw (law (path ++ 1 ∷ []) a (bool h.0) h.1) (ap (λ (x : ExprSyntax). Ok x) (sym h.2))
  node_again path (binary_form op a b) e h =
      rw (law (path ++ 1 ∷ []) a h.0 h.2, law (path ++ 2 ∷ []) b h.1 h.3) (combine_again op (path ++ 1 ∷ []) h.0 (path ++ 2 ∷ []) h.1 e h.4)
  node_again path (exists_form table d) e h = rw (h.2, law (path ++ 2 ∷ []) d (int h.1) h.3) (ap (λ (x : ExprSyntax). Ok x) (sym h.4))
  node_again path (count_form table d) e h = rw (h.2, law (path ++ 2 ∷ []) d (int h.1) h.3) (ap (λ (x : ExprSyntax). Ok x) (sym h.4))
  node_again path (sum_form table d column) e h = rw (h.3, law (path ++ 2 ∷ []) d (int h.1) h.4, h.5) (ap (λ (x : ExprSyntax). Ok x) (sym h.6))

pub expr_found : (section : Section) (tables : List TableShape) (room : ℕ) (path : List ℕ) (scope : List Seen) (d : Data) (e : ExprSyntax) → expr_at section tables room path scope d ≡ Ok e → SaysExpr section tables room scope d e
unfolding expr_at
expr_found section tables zero path scope d e h = let f = bind_ok (formed (At Shape path) (form_in section d)) _ e h in absurd (let g = f.2 in cc)
expr_found section tables (suc room) path scope d e h =
    let f = bind_ok (formed (At Shape path) (form_in section d)) _ e h in
    let is = form_known section d f.0 (formed_ok (At Shape path) (form_in section d) f.0 f.1) in
    (f.0, expr_said d f.0 is.0, is.1, node_found tables (expr_at section tables room) (SaysExpr section tables room scope) scope (λ p x y g. expr_found section tables room p scope x y g) path f.0 e f.2)

pub expr_read : (section : Section) (tables : List TableShape) (room : ℕ) (path : List ℕ) (scope : List Seen) (d : Data) (e : ExprSyntax) → SaysExpr section tables room scope d e → expr_at section tables room path scope d ≡ Ok e
unfolding expr_at
expr_read section tables zero path scope d e h = absurd h
expr_read section tables (suc room) path scope d e h =
    rw (form_again section d h.0 (expr_again d h.0 h.1) h.2) (node_again tables (expr_at section tables room) (SaysExpr section tables room scope) scope (λ p x y g. expr_read section tables room p scope x y g) path h.0 e h.3)
