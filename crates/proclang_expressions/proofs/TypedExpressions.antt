-- An expression that is read fits the tables and the variables that are seen, and in a footprint it asks for no rows.
use Rattle.std.proofs.Common.{◌≡◌, ℕ, zero, suc, ◌<◌, true, List, [], ◌∷◌, ◌++◌, length, slice_get, Option, Some, None, option_map, option_and_then, Ok, refl, ap, ◌∙◌, subst}
use Rattle.std.specs.Str.{bytes_eq}
use Rattle.std.proofs.lemmas.List.Quantifiers.{position-Some}
use Rattle.std.proofs.lemmas.Option.{slice_get-map}
use Rattle.serde_json.specs.Data.{Data}
use Rattle.documents.specs.Reading.{formed}
use Rattle.documents.proofs.Steps.{bind_ok, rule_ok, formed_ok, and_then_ok, map_ok}
use Rattle.values.specs.declared.value.ColType.{ColType}
use Rattle.values.specs.declared.value.ColType.TheVariants as types
use Rattle.catalogue.specs.Places.{table_named, column_named}
use Rattle.catalogue.specs.Shapes.{TableShape}
use Rattle.proclang_types.specs.declared.operator.Equality.{Equality}
use Rattle.proclang_types.specs.declared.operator.Comparison.TheVariants as comparisons
use Rattle.proclang_types.specs.Syntax.{IntSyntax, number, binary, count_rows, sum_column, TextSyntax, literal, BoolSyntax, compare_ints, compare_texts, both, either, negated, row_exists, ExprSyntax, int, text, bool, ValueSyntax, int_value, text_value}
use Rattle.proclang_types.specs.Typing.{column_kind, IntFits, TextFits, BoolFits, ExprFits, ValueFits}
use Rattle.proclang_expressions.specs.declared.fault.FaultKind.TheVariants.{Shape, UnknownTable, UnknownColumn, TypeMismatch}
use Rattle.proclang_expressions.specs.declared.fault.ProcFault.TheVariants.{At}
use Rattle.proclang_forms.specs.declared.operator.Operator.{Operator}
use Rattle.proclang_forms.specs.declared.operator.Operator.TheVariants.{Arithmetic, Less, AtMost, Same, And, Or}
use Rattle.proclang_forms.specs.declared.expr_forms.Section.{Section}
use Rattle.proclang_expressions.specs.declared.scope.Found.{Found}
use Rattle.proclang_expressions.specs.Seen.{Seen, seen_kinds, place_in, found_at, found_in}
use Rattle.proclang_expressions.specs.Lookups.{same_type, table_called, column_in, column_called}
use Rattle.proclang_forms.specs.ExprForms.{Form, number_form, literal_form, variable_form, not_form, binary_form, exists_form, count_form, sum_form, form_in}
use Rattle.proclang_expressions.specs.Expressions.{variable_syntax, named, literal_at, as_int, as_text, as_bool, as_value, two_ints, two_bools, of_ints, two_alike, calculate, comparison_at, combine, PartReader, not_at, binary_at, exists_at, count_at, sum_at, node_at, expr_at}

-- ---- variables, tables and columns

-- a variable that is found stands at its place, with its type
pub found_fits : (name : List ℕ) (scope : List Seen) (v : Found) → found_in name scope ≡ Some v → slice_get (seen_kinds scope) v.place ≡ Some v.kind
found_fits name scope v e =
    let at = and_then_ok (λ place. option_map (found_at place) (slice_get scope place)) (place_in name scope) v e in
    let there = map_ok (found_at at.0) (slice_get scope at.0) v at.2 in
    subst (λ (w : Found). slice_get (seen_kinds scope) w.place ≡ Some w.kind) there.2 (slice_get-map (λ (w : Seen). w.kind) scope at.0 ∙ ap (option_map (λ (w : Seen). w.kind)) there.1)

-- the table of a name that is found is there
pub table_there : (tables : List TableShape) (path name : List ℕ) (place : ℕ) → table_called path tables name ≡ Ok place → place < length tables
table_there tables path name place e = within tables name place (formed_ok (At UnknownTable path) (table_named tables name) place e)
  where
    within : (tables : List TableShape) (name : List ℕ) (place : ℕ) → table_named tables name ≡ Some place → place < length tables
    within [] name place e = absurd cc
    within (t ∷ ts) name place e = (position-Some (λ u. bytes_eq name u.name) (t ∷ ts) place t e).0

-- a column that is found has the type that is found
pub column_fits : (tables : List TableShape) (table : ℕ) (name : List ℕ) (c : ℕ × ColType) → column_in tables table name ≡ Some c → column_kind tables table c.0 ≡ Some c.1
column_fits tables table name c e =
    let place = and_then_ok (λ place. option_map (λ kind. (place, kind)) (column_kind tables table place)) (option_and_then (λ t. column_named t.columns name) (slice_get tables table)) c e in
    let kind = map_ok (λ kind. (place.0, kind)) (column_kind tables table place.0) c place.2 in
    subst (λ (d : ℕ × ColType). column_kind tables table d.0 ≡ Some d.1) kind.2 kind.1

pub types_are : (a b : ColType) → same_type a b ≡ true → a ≡ b
types_are types.Int types.Int e = refl
types_are types.Text types.Text e = refl
types_are types.Int types.Text e = absurd cc
types_are types.Text types.Int e = absurd cc

module _ (tables : List TableShape) (kinds : List ColType) where
  variable_fits : (kind : ColType) (place : ℕ) → slice_get kinds place ≡ Some kind → ExprFits tables kinds (variable_syntax kind place)
  variable_fits types.Int place h = h
  variable_fits types.Text place h = h

  literal_fits : (path s : List ℕ) (e : ExprSyntax) → literal_at path s ≡ Ok e → ExprFits tables kinds e
  literal_fits path s e r =
      let few = bind_ok _ (λ _. Ok (text (literal s))) e r in
      let is : text (literal s) ≡ e = (let g = few.2 in cc) in
      subst (ExprFits tables kinds) is tt

  -- ---- operands of the type that is asked for

  pub int_fits : (path : List ℕ) (x : ExprSyntax) (e : IntSyntax) → ExprFits tables kinds x → as_int path x ≡ Ok e → IntFits tables kinds e
  int_fits path (int y) e f r = let is : y ≡ e = cc in subst (IntFits tables kinds) is f
  int_fits path (text y) e f r = absurd cc
  int_fits path (bool y) e f r = absurd cc

  text_fits : (path : List ℕ) (x : ExprSyntax) (e : TextSyntax) → ExprFits tables kinds x → as_text path x ≡ Ok e → TextFits kinds e
  text_fits path (text y) e f r = let is : y ≡ e = cc in subst (TextFits kinds) is f
  text_fits path (int y) e f r = absurd cc
  text_fits path (bool y) e f r = absurd cc

  pub bool_fits : (path : List ℕ) (x : ExprSyntax) (e : BoolSyntax) → ExprFits tables kinds x → as_bool path x ≡ Ok e → BoolFits tables kinds e
  bool_fits path (bool y) e f r = let is : y ≡ e = cc in subst (BoolFits tables kinds) is f
  bool_fits path (int y) e f r = absurd cc
  bool_fits path (text y) e f r = absurd cc

  pub value_fits : (path : List ℕ) (x : ExprSyntax) (v : ValueSyntax) → ExprFits tables kinds x → as_value path x ≡ Ok v → ValueFits tables kinds v
  value_fits path (int y) v f r = let is : int_value y ≡ v = cc in subst (ValueFits tables kinds) is f
  value_fits path (text y) v f r = let is : text_value y ≡ v = cc in subst (ValueFits tables kinds) is f
  value_fits path (bool y) v f r = absurd cc

  -- ---- operators

  two_ints_fit : (make : IntSyntax → IntSyntax → ExprSyntax) → ((a b : IntSyntax) → IntFits tables kinds a → IntFits tables kinds b → ExprFits tables kinds (make a b)) → (p : List ℕ) (x : ExprSyntax) (q : List ℕ) (y e : ExprSyntax)
      → ExprFits tables kinds x → ExprFits tables kinds y → two_ints make p x q y ≡ Ok e → ExprFits tables kinds e
  unfolding two_ints
  two_ints_fit make h p x q y e f g r =
      let a = bind_ok (as_int p x) _ e r in
      let b = bind_ok (as_int q y) _ e a.2 in
      let is : make a.0 b.0 ≡ e = (let k = b.2 in cc) in
      subst (ExprFits tables kinds) is (h a.0 b.0 (int_fits p x a.0 f a.1) (int_fits q y b.0 g b.1))

  two_bools_fit : (make : BoolSyntax → BoolSyntax → ExprSyntax) → ((a b : BoolSyntax) → BoolFits tables kinds a → BoolFits tables kinds b → ExprFits tables kinds (make a b)) → (p : List ℕ) (x : ExprSyntax) (q : List ℕ) (y e : ExprSyntax)
      → ExprFits tables kinds x → ExprFits tables kinds y → two_bools make p x q y ≡ Ok e → ExprFits tables kinds e
  unfolding two_bools
  two_bools_fit make h p x q y e f g r =
      let a = bind_ok (as_bool p x) _ e r in
      let b = bind_ok (as_bool q y) _ e a.2 in
      let is : make a.0 b.0 ≡ e = (let k = b.2 in cc) in
      subst (ExprFits tables kinds) is (h a.0 b.0 (bool_fits p x a.0 f a.1) (bool_fits q y b.0 g b.1))

  two_alike_fit : (test : Equality) (p : List ℕ) (x : ExprSyntax) (q : List ℕ) (y e : ExprSyntax) → ExprFits tables kinds x → ExprFits tables kinds y → two_alike test p x q y ≡ Ok e → ExprFits tables kinds e
  unfolding two_alike
  two_alike_fit test p (int x) q y e f g r =
      let b = bind_ok (as_int q y) _ e r in
      let is : bool (compare_ints (of_ints test) x b.0) ≡ e = (let k = b.2 in cc) in
      subst (ExprFits tables kinds) is (f, int_fits q y b.0 g b.1)
  two_alike_fit test p (text x) q y e f g r =
      let b = bind_ok (as_text q y) _ e r in
      let is : bool (compare_texts test x b.0) ≡ e = (let k = b.2 in cc) in
      subst (ExprFits tables kinds) is (f, text_fits q y b.0 g b.1)
  two_alike_fit test p (bool x) q y e f g r = absurd cc

  combine_fits : (op : Operator) (p : List ℕ) (x : ExprSyntax) (q : List ℕ) (y e : ExprSyntax) → ExprFits tables kinds x → ExprFits tables kinds y → combine op p x q y ≡ Ok e → ExprFits tables kinds e
  unfolding combine calculate comparison_at
  combine_fits (Arithmetic op) p x q y e f g r = two_ints_fit (λ a b. int (binary op a b)) (λ a b s t. (s, t)) p x q y e f g r
  combine_fits Less p x q y e f g r = two_ints_fit (λ a b. bool (compare_ints comparisons.Less a b)) (λ a b s t. (s, t)) p x q y e f g r
  combine_fits AtMost p x q y e f g r = two_ints_fit (λ a b. bool (compare_ints comparisons.AtMost a b)) (λ a b s t. (s, t)) p x q y e f g r
  combine_fits (Same test) p x q y e f g r = two_alike_fit test p x q y e f g r
  combine_fits And p x q y e f g r = two_bools_fit (λ a b. bool (both a b)) (λ a b s t. (s, t)) p x q y e f g r
  combine_fits Or p x q y e f g r = two_bools_fit (λ a b. bool (either a b)) (λ a b s t. (s, t)) p x q y e f g r

named_fits : (tables : List TableShape) (path : List ℕ) (scope : List Seen) (name : List ℕ) (o : Option Found) (e : ExprSyntax) → found_in name scope ≡ o → named path o ≡ Ok e → ExprFits tables (seen_kinds scope) e
named_fits tables path scope name None e h r = absurd cc
named_fits tables path scope name (Some v) e h r =
    let is : variable_syntax v.kind v.place ≡ e = cc in
    subst (ExprFits tables (seen_kinds scope)) is (variable_fits tables (seen_kinds scope) v.kind v.place (found_fits name scope v h))

-- ---- expressions

module _ (tables : List TableShape) (part : PartReader) (scope : List Seen) (law : (path : List ℕ) (d : Data) (e : ExprSyntax) → part path scope d ≡ Ok e → ExprFits tables (seen_kinds scope) e) where
  -- a table and an Int
  on_table_fits : (path : List ℕ) (table : List ℕ) (d : Data) (t : ℕ) (x : ExprSyntax) (k : IntSyntax) → table_called (path ++ 1 ∷ []) tables table ≡ Ok t → part (path ++ 2 ∷ []) scope d ≡ Ok x → as_int (path ++ 2 ∷ []) x ≡ Ok k
      → (t < length tables) × IntFits tables (seen_kinds scope) k
  on_table_fits path table d t x k a b c = (table_there tables (path ++ 1 ∷ []) table t a, int_fits tables (seen_kinds scope) (path ++ 2 ∷ []) x k (law (path ++ 2 ∷ []) d x b) c)

  not_fits : (path : List ℕ) (d : Data) (e : ExprSyntax) → not_at part path scope d ≡ Ok e → ExprFits tables (seen_kinds scope) e
  unfolding not_at
  not_fits path d e r =
      let x = bind_ok (part (path ++ 1 ∷ []) scope d) _ e r in
      let b = bind_ok (as_bool (path ++ 1 ∷ []) x.0) _ e x.2 in
      let is : bool (negated b.0) ≡ e = (let k = b.2 in cc) in
      subst (ExprFits tables (seen_kinds scope)) is (bool_fits tables (seen_kinds scope) (path ++ 1 ∷ []) x.0 b.0 (law (path ++ 1 ∷ []) d x.0 x.1) b.1)

  binary_fits : (path : List ℕ) (op : Operator) (a b : Data) (e : ExprSyntax) → binary_at part path scope op a b ≡ Ok e → ExprFits tables (seen_kinds scope) e
  unfolding binary_at
  binary_fits path op a b e r =
      let x = bind_ok (part (path ++ 1 ∷ []) scope a) _ e r in
      let y = bind_ok (part (path ++ 2 ∷ []) scope b) _ e x.2 in
      combine_fits tables (seen_kinds scope) op (path ++ 1 ∷ []) x.0 (path ++ 2 ∷ []) y.0 e (law (path ++ 1 ∷ []) a x.0 x.1) (law (path ++ 2 ∷ []) b y.0 y.1) y.2

  exists_fits : (path : List ℕ) (table : List ℕ) (d : Data) (e : ExprSyntax) → exists_at tables part path scope table d ≡ Ok e → ExprFits tables (seen_kinds scope) e
  unfolding exists_at
  exists_fits path table d e r =
      let t = bind_ok (table_called (path ++ 1 ∷ []) tables table) _ e r in
      let x = bind_ok (part (path ++ 2 ∷ []) scope d) _ e t.2 in
      let k = bind_ok (as_int (path ++ 2 ∷ []) x.0) _ e x.2 in
      let is : bool (row_exists t.0 k.0) ≡ e = (let g = k.2 in cc) in
      subst (ExprFits tables (seen_kinds scope)) is (on_table_fits path table d t.0 x.0 k.0 t.1 x.1 k.1)

  count_fits : (path : List ℕ) (table : List ℕ) (d : Data) (e : ExprSyntax) → count_at tables part path scope table d ≡ Ok e → ExprFits tables (seen_kinds scope) e
  unfolding count_at
  count_fits path table d e r =
      let t = bind_ok (table_called (path ++ 1 ∷ []) tables table) _ e r in
      let x = bind_ok (part (path ++ 2 ∷ []) scope d) _ e t.2 in
      let k = bind_ok (as_int (path ++ 2 ∷ []) x.0) _ e x.2 in
      let is : int (count_rows t.0 k.0) ≡ e = (let g = k.2 in cc) in
      subst (ExprFits tables (seen_kinds scope)) is (on_table_fits path table d t.0 x.0 k.0 t.1 x.1 k.1)

  sum_fits : (path : List ℕ) (table : List ℕ) (d : Data) (column : List ℕ) (e : ExprSyntax) → sum_at tables part path scope table d column ≡ Ok e → ExprFits tables (seen_kinds scope) e
  unfolding sum_at
  sum_fits path table d column e r =
      let t = bind_ok (table_called (path ++ 1 ∷ []) tables table) _ e r in
      let x = bind_ok (part (path ++ 2 ∷ []) scope d) _ e t.2 in
      let c = bind_ok (column_called (path ++ 3 ∷ []) tables t.0 column) _ e x.2 in
      let k = bind_ok (as_int (path ++ 2 ∷ []) x.0) _ e c.2 in
      let kind = rule_ok (same_type c.0.1 types.Int) (At TypeMismatch (path ++ 3 ∷ [])) _ e k.2 in
      let is : int (sum_column t.0 k.0 c.0.0) ≡ e = (let g = kind.1 in cc) in
      let column_is : column_kind tables t.0 c.0.0 ≡ Some types.Int =
      column_fits tables t.0 column c.0 (formed_ok (At UnknownColumn (path ++ 3 ∷ [])) (column_in tables t.0 column) c.0 c.1) ∙ ap (λ (k : ColType). Some k) (types_are c.0.1 types.Int kind.0) in
      subst (ExprFits tables (seen_kinds scope)) is ((on_table_fits path table d t.0 x.0 k.0 t.1 x.1 k.1).1, column_is)

  node_fits : (path : List ℕ) (f : Form) (e : ExprSyntax) → node_at tables part path scope f ≡ Ok e → ExprFits tables (seen_kinds scope) e
  unfolding node_at
  node_fits path (number_form z) e r = let is : int (number z) ≡ e = cc in subst (ExprFits tables (seen_kinds scope)) is tt
  node_fits path (literal_form s) e r = literal_fits tables (seen_kinds scope) path s e r
  node_fits path (variable_form name) e r = named_fits tables path scope name (found_in name scope) e refl r
  node_fits path (not_form d) e r = not_fits path d e r
  node_fits path (binary_form op a b) e r = binary_fits path op a b e r
  node_fits path (exists_form table d) e r = exists_fits path table d e r
  node_fits path (count_form table d) e r = count_fits path table d e r
  node_fits path (sum_form table d column) e r = sum_fits path table d column e r

pub expr_fits : (section : Section) (tables : List TableShape) (room : ℕ) (path : List ℕ) (scope : List Seen) (d : Data) (e : ExprSyntax) → expr_at section tables room path scope d ≡ Ok e → ExprFits tables (seen_kinds scope) e
unfolding expr_at
expr_fits section tables zero path scope d e r = let f = bind_ok (formed (At Shape path) (form_in section d)) _ e r in absurd (let h = f.2 in cc)
expr_fits section tables (suc room) path scope d e r =
    let f = bind_ok (formed (At Shape path) (form_in section d)) _ e r in
    node_fits tables (expr_at section tables room) scope (λ p x y h. expr_fits section tables room p scope x y h) path f.0 e f.2
